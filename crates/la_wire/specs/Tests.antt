-- What can be had, as a test.
use Rattle.std.specs.Prelude.{nat_le, Bool, true, false, List, [], ◌∷◌, length, ◌==◌, ◌&&◌}
use Rattle.std.specs.List.{list_all}
use Rattle.la_set.specs.declared.tags.TheConstants.{MAX_TAGS}
use Rattle.la_set.specs.declared.update.Op.{Op}
use Rattle.la_set.specs.declared.update.Op.TheVariants.{Inc, Dec, Raise, Put, Remove, Mark, Vote}
use Rattle.la_set.specs.declared.update.UpdateId.{UpdateId}
use Rattle.la_set.specs.declared.update.Update.{Update}
use Rattle.la_set.specs.declared.counts.Counts.{Counts}
use Rattle.la_set.specs.Ids.{id_below}
use Rattle.la_node.specs.declared.link.Standing.{Standing}
use Rattle.la_object.specs.declared.query.Query.{Query}
use Rattle.la_object.specs.declared.query.Query.TheVariants as query
use Rattle.la_script.specs.Numbers.{u8_max, u16_max, u32_max, u64_max}
use Rattle.la_wire.specs.Messages.{WireMessage, WireBody, Offer, Yes, No, Tell}
use Rattle.la_wire.specs.Calls.{WireCall, Submit, Decide, Ask, Tick, Receive, Known}

abbrev pub is_id : UpdateId → Bool
is_id id = nat_le id.replica u8_max && (nat_le 1 id.number && nat_le id.number u32_max)

abbrev pub are_ascending : List UpdateId → Bool
are_ascending [] = true
are_ascending (id ∷ ids) = list_all (λ other. id_below id other) ids && are_ascending ids

abbrev pub are_tags : List UpdateId → Bool
are_tags ids = are_ascending ids && nat_le (length ids) MAX_TAGS

abbrev pub is_op : Op → Bool
is_op (Inc x) = nat_le x u32_max
is_op (Dec x) = nat_le x u32_max
is_op (Raise x) = nat_le x u64_max
is_op (Put x) = nat_le x u64_max
is_op (Remove tags) = are_tags tags && list_all is_id tags
is_op Mark = true
is_op (Vote x sole) = nat_le x u64_max

abbrev pub is_wire_update : Update → Bool
is_wire_update u = is_id u.id && (nat_le u.object u16_max && is_op u.op)

abbrev pub are_counts : Counts → Bool
are_counts c = (length c.of == 8) && list_all (λ n. nat_le n u32_max) c.of

abbrev pub is_body : WireBody → Bool
is_body (Offer base more) = are_counts base && list_all is_wire_update more
is_body Yes = true
is_body (No base more) = are_counts base && list_all is_wire_update more
is_body (Tell base more) = are_counts base && list_all is_wire_update more

abbrev pub is_message : WireMessage → Bool
is_message m =
    (nat_le 1 m.replicas && nat_le m.replicas 8)
    && ((nat_le m.from u8_max && nat_le m.to u8_max)
    && ((nat_le m.instance u8_max && nat_le m.ballot u32_max)
    && ((are_counts m.progress.accepted && are_counts m.progress.view)
    && is_body m.body)))

abbrev pub is_standing : Standing → Bool
is_standing s =
    (nat_le 1 s.replicas && nat_le s.replicas 8)
    && ((nat_le s.from u8_max && nat_le s.to u8_max)
    && ((are_counts s.progress.accepted && are_counts s.progress.view)
    && (are_counts s.over.accepted && are_counts s.over.view)))

abbrev pub is_voteless : Op → Bool
is_voteless (Vote x sole) = false
is_voteless _ = true

abbrev pub is_query : Query → Bool
is_query (query.AtLeast x) = nat_le x u64_max
is_query (query.Has x) = nat_le x u64_max
is_query _ = true

abbrev pub is_call : WireCall → Bool
is_call (Submit replica object op) = (nat_le replica u8_max && nat_le object u16_max) && (is_op op && is_voteless op)
is_call (Decide replica commit value) = nat_le replica u8_max && (nat_le commit u8_max && nat_le value u64_max)
is_call (Ask replica object query) = nat_le replica u8_max && (nat_le object u16_max && is_query query)
is_call Tick = true
is_call (Receive message) = is_message message
is_call (Known standing) = is_standing standing
