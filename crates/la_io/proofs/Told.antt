-- What is told part by part, to a listener that has taken a front.
use Rattle.std.proofs.Common.{ℕ, ◌-◌, ◌≤◌, List, [], length, take, drop, Option, sym, subst}
use Rattle.std.specs.Io.KnownBytes.{Appends, Keeps}
use Rattle.std.proofs.KnownBytes.{Appends-kept}
use Rattle.std.proofs.lemmas.List.{take_rest, take_all, drop_all}
use Rattle.la_io.specs.Streams.{RefusesBytes}

module _ {W : Type 0} (contents : W → Option (List ℕ)) (refuses : W → List ℕ → W → Type 0) (old between new : W)
    (bytes : List ℕ) (n : ℕ)
    (took : Appends (contents old) (contents between) (take n bytes)) (kept : Keeps (contents between) (contents new))
  where
    -- the rest was refused
    pub rest_is_refused : refuses between (take (length bytes - n) (drop n bytes)) new
        → RefusesBytes contents refuses old new bytes
    rest_is_refused refused =
        record { count = n; between = between; took = took; kept = kept; refused = subst (λ rest. refuses between rest new) (take_rest bytes n) refused }

    -- all was taken, and the flush was refused
    pub flush_is_refused : length bytes ≤ n → refuses between [] new → RefusesBytes contents refuses old new bytes
    flush_is_refused all refused =
        record { count = n; between = between; took = took; kept = kept; refused = subst (λ rest. refuses between rest new) (sym (drop_all n bytes all)) refused }

    -- all was taken, and flushed
    pub all_is_told : length bytes ≤ n → Appends (contents old) (contents new) bytes
    all_is_told all =
        subst (Appends (contents old) (contents new)) (take_all n bytes all)
        (Appends-kept (contents old) (contents between) (contents new) (take n bytes) took kept)
