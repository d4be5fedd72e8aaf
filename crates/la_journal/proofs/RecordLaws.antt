-- The laws of groups with the real records.
use Rattle.la_journal.specs.Records.{record_line, GroupsGrow, OthersAreBehind, BytesAreGroups}
use Rattle.la_journal.proofs.RecordBytes.{are_records}
use Rattle.la_journal.proofs.Extents.{are_groups_and_rest, grows, others}

pub groups_grow : GroupsGrow
groups_grow before bytes group none whole = grows record_line are_records before bytes group none whole

pub others_are_behind : OthersAreBehind
others_are_behind before bytes more none not = others record_line are_records before bytes more none not

pub bytes_are_groups : BytesAreGroups
bytes_are_groups before bytes = are_groups_and_rest record_line are_records before bytes
