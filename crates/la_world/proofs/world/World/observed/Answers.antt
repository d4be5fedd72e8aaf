use Rattle.std.proofs.Common.{rules, ◌≡◌, ◌<◌, length, slice_set, Some, IsSome, IsSomeAnd, IfOk, IfErr, OnOk, subst, sym, ◌∙◌}
use Rattle.la_set.specs.declared.tags.TheConstants.{MAX_TAGS}
use Rattle.la_object.specs.Shelves.{tags_at}
use Rattle.la_node.specs.declared.error.WorldError.{WorldError}
use Rattle.la_node.specs.Nodes.{followed, IsObservedRefusal, LeftUntoldNode as LeftAtNode}
use Rattle.la_world.specs.StandsFor.{StandsFor, group_in, trace_in}
use Rattle.la_world.specs.Calls.{HasObject, IsFollowing, world_tags, IsWorldTagsRefusal, LeftUntoldWorld}
use Rattle.la_world.proofs.Worlds.{found_at}
use Rattle.la_world.proofs.WorldNodes.{world_of_nodes, asked_known}
use Rattle.la_world.proofs.Questions.{looked_holds, looked_keeps, look_follows, tags_told, tags_known}
use Rattle.la_world.proofs.world.World.observed.Goals as goal
use Rattle.la_world.proofs.world.World.observed.Goals.{in-Ok, in-Err-TooManyTags, in-Err}

pub index_mut-requires : goal.index_mut-requires
index_mut-requires g c =
    let has =
    subst (λ v. HasObject v.shelves c.args.replica c.args.object) (sym c.self.view_is)
    c.in_ok-admit_question.ensures.ok in
    let known : c.args.replica < length c.self.inside.nodes.items =
    asked_known c.self.inside.nodes.items c.args.replica c.args.object has in
    search rules

pub invariant_of-self : goal.invariant_of-self
invariant_of-self g c =
    let r = c.args.replica in
    let nodes = c.self.inside.nodes.items in
    let has = subst (λ v. HasObject v.shelves r c.args.object) (sym c.self.view_is) c.in_ok-admit_question.ensures.ok in
    let found =
    found_at nodes r c.index_mut.result.now (asked_known nodes r c.args.object has) c.index_mut.ensures.value in
    looked_holds c.self.inside.config c.self.inside.nodes.items c.self.inside.journal c.self.invariant r
    c.index_mut.result.now found c.observed.new.self c.observed.ensures.replica c.observed.ensures.objects
    c.observed.ensures.within

pub returns-clause-tags : goal.returns-clause-tags
returns-clause-tags g c events stands =
    let r = c.args.replica in
    let nodes = c.self.inside.nodes.items in
    let has = subst (λ v. HasObject v.shelves r c.args.object) (sym c.self.view_is) c.in_ok-admit_question.ensures.ok in
    let found =
    found_at nodes r c.index_mut.result.now (asked_known nodes r c.args.object has) c.index_mut.ensures.value in
    let old = c.args.self.now in
    let object = c.args.object in
    let element = c.args.element in
    let n = c.index_mut.result.now in
    let then = subst (λ v. StandsFor v events) (sym c.self.view_is) stands in
    let same : world_tags (group_in old) (trace_in old events) r object element ≡ tags_at (followed n) object element =
    subst (λ v. world_tags (group_in v) (trace_in v events) r object element ≡ tags_at (followed n) object element)
    c.self.view_is
    (tags_told c.self.inside.config c.self.inside.nodes.items c.self.inside.journal c.self.invariant r n found
    events then object element) in
    elim c.match-observed.branch [
      | in-Ok w ↦ subst (λ z. IfOk z (λ tags. world_tags (group_in old) (trace_in old events) r object element ≡ Some tags)) (sym w.result-is) (same ∙ w.in-Ok.ensures.ok)
      | in-Err-TooManyTags w ↦ subst (λ z. IfOk z (λ tags. world_tags (group_in old) (trace_in old events) r object element ≡ Some tags)) (sym w.result-is) tt
      | in-Err w ↦ subst (λ z. IfOk z (λ tags. world_tags (group_in old) (trace_in old events) r object element ≡ Some tags)) (sym w.result-is) tt
    ]

pub returns-clause-error : goal.returns-clause-error
returns-clause-error g c events stands =
    let r = c.args.replica in
    let nodes = c.self.inside.nodes.items in
    let has = subst (λ v. HasObject v.shelves r c.args.object) (sym c.self.view_is) c.in_ok-admit_question.ensures.ok in
    let found =
    found_at nodes r c.index_mut.result.now (asked_known nodes r c.args.object has) c.index_mut.ensures.value in
    let old = c.args.self.now in
    let object = c.args.object in
    let element = c.args.element in
    let n = c.index_mut.result.now in
    let then = subst (λ v. StandsFor v events) (sym c.self.view_is) stands in
    let same : world_tags (group_in old) (trace_in old events) r object element ≡ tags_at (followed n) object element =
    subst (λ v. world_tags (group_in v) (trace_in v events) r object element ≡ tags_at (followed n) object element)
    c.self.view_is
    (tags_told c.self.inside.config c.self.inside.nodes.items c.self.inside.journal c.self.invariant r n found
    events then object element) in
    elim c.match-observed.branch [
      | in-Ok w ↦ subst (λ z. IfErr z (IsWorldTagsRefusal (group_in old) (trace_in old events) r object element)) (sym w.result-is) tt
      | in-Err-TooManyTags w ↦ subst (λ z. IfErr z (IsWorldTagsRefusal (group_in old) (trace_in old events) r object element)) (sym w.result-is)
          (subst (λ o. IsSomeAnd o (λ ids. MAX_TAGS < length ids)) (sym same)
          (subst (IsObservedRefusal (tags_at (followed n) object element)) w.in-Err-TooManyTags.field-0-is
          w.in-Err-TooManyTags.ensures.error))
      | in-Err w ↦ subst (λ z. IfErr z (IsWorldTagsRefusal (group_in old) (trace_in old events) r object element)) (sym w.result-is)
          (subst (λ v. IsSome (world_tags (group_in v) (trace_in v events) r object element)) c.self.view_is
          (tags_known c.self.inside.config c.self.inside.nodes.items c.self.inside.journal c.self.invariant r n found
          events then object element has))
    ]

pub returns-clause-keeps : goal.returns-clause-keeps
returns-clause-keeps g c =
    let r = c.args.replica in
    let nodes = c.self.inside.nodes.items in
    let has = subst (λ v. HasObject v.shelves r c.args.object) (sym c.self.view_is) c.in_ok-admit_question.ensures.ok in
    let found =
    found_at nodes r c.index_mut.result.now (asked_known nodes r c.args.object has) c.index_mut.ensures.value in
    looked_keeps c.self.inside.config c.self.inside.nodes.items c.self.inside.journal c.self.invariant r
    c.index_mut.result.now found c.observed.new.self c.observed.ensures.replica c.observed.ensures.objects
    c.observed.ensures.within c.self.view_is

pub returns-clause-follows : goal.returns-clause-follows
returns-clause-follows g c =
    let r = c.args.replica in
    let nodes = c.self.inside.nodes.items in
    let has = subst (λ v. HasObject v.shelves r c.args.object) (sym c.self.view_is) c.in_ok-admit_question.ensures.ok in
    let found =
    found_at nodes r c.index_mut.result.now (asked_known nodes r c.args.object has) c.index_mut.ensures.value in
    let after = world_of_nodes c.self.inside.config (slice_set nodes r c.observed.new.self) c.self.inside.journal in
    elim c.match-observed.branch [
      | in-Ok w ↦ subst (λ z. OnOk z (IsFollowing after r)) (sym w.result-is) (look_follows c.self.inside.config nodes c.self.inside.journal c.self.invariant r c.index_mut.result.now found c.observed.new.self w.in-Ok.ensures.follows)
      | in-Err-TooManyTags w ↦ subst (λ z. OnOk z (IsFollowing after r)) (sym w.result-is) tt
      | in-Err w ↦ subst (λ z. OnOk z (IsFollowing after r)) (sym w.result-is) tt
    ]

pub returns-clause-err : goal.returns-clause-err
returns-clause-err g c =
    let r = c.args.replica in
    let nodes = c.self.inside.nodes.items in
    let has = subst (λ v. HasObject v.shelves r c.args.object) (sym c.self.view_is) c.in_ok-admit_question.ensures.ok in
    let found =
    found_at nodes r c.index_mut.result.now (asked_known nodes r c.args.object has) c.index_mut.ensures.value in
    let n = c.index_mut.result.now in
    let after = world_of_nodes c.self.inside.config (slice_set nodes r c.observed.new.self) c.self.inside.journal in
    let left : WorldError → Type 0 = λ e. LeftUntoldWorld e r c.args.self.now after in
    elim c.match-observed.branch [
      | in-Ok w ↦ subst (λ z. IfErr z left) (sym w.result-is) tt
      | in-Err-TooManyTags w ↦ subst (λ z. IfErr z left) (sym w.result-is)
          (look_follows c.self.inside.config nodes c.self.inside.journal c.self.invariant r n found c.observed.new.self
          (subst (λ e. LeftAtNode e n c.observed.new.self) w.in-Err-TooManyTags.field-0-is
          w.in-Err-TooManyTags.ensures.err))
      | in-Err w ↦ subst (λ z. IfErr z left) (sym w.result-is) tt
    ]
