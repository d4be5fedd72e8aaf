-- Why a folder is not opened, by what the system says.
use Rattle.std.specs.Prelude.{◌≡◌, Option, Some, None}
use Rattle.std.specs.IoError.{error_kind}
use Rattle.std.specs.Fs.{IsDir, IsFile, IsSymlink}
use Rattle.std.specs.declared.fs.FileType.{FileType}
use Rattle.std.specs.declared.fs.TryLockError.{TryLockError}
use Rattle.std.specs.declared.fs.TryLockError.TheVariants as lock
use Rattle.std.specs.declared.io.ErrorKind.{ErrorKind}
use Rattle.std.specs.declared.io.ErrorKind.TheVariants as kind
use Rattle.la_disk.specs.declared.fault.OpenFault.{OpenFault}
use Rattle.la_disk.specs.declared.fault.OpenFault.TheVariants.{Locked, Unopened, Unread, Memory}

-- where a name was looked at, or a file opened
abbrev pub of_opening : ErrorKind → OpenFault
of_opening kind.OutOfMemory = Memory
of_opening k = Unopened k

-- where the journal was read
abbrev pub of_reading : ErrorKind → OpenFault
of_reading kind.OutOfMemory = Memory
of_reading _ = Unread

-- where the lock was asked for
abbrev pub of_locking : TryLockError → OpenFault
of_locking lock.WouldBlock = Locked
of_locking (lock.Error e) = of_opening (error_kind e)

-- what is said of a name that stands for this: nothing of a file, and of what is none that it can't be opened as one
pub record IsObstacle (found : FileType) (said : Option ErrorKind) : Type 0 where
  pub file : IsFile found → said ≡ None
  pub folder : IsDir found → said ≡ Some kind.IsADirectory
  pub link : IsSymlink found → said ≡ Some kind.FilesystemLoop
  pub other : (IsFile found → ⊥) → (IsDir found → ⊥) → (IsSymlink found → ⊥) → said ≡ Some kind.Unsupported
