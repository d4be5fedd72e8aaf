use Rattle.std.proofs.Common.{rules, ◌<◌, length, subst, sym}
use Rattle.la_world.specs.Calls.{HasObject}
use Rattle.la_world.proofs.Worlds.{found_at}
use Rattle.la_world.proofs.WorldNodes.{asked_known}
use Rattle.la_world.proofs.Questions.{looked_holds, looked_keeps, asked_holds, asked_plays}
use Rattle.la_world.proofs.world.World.ask.Goals as goal

pub index_mut-requires : goal.index_mut-requires
index_mut-requires g c =
    let has =
    subst (λ v. HasObject v.shelves c.args.replica c.args.object) (sym c.self.view_is)
    c.in_ok-admit_question.ensures.ok in
    let known : c.args.replica < length c.self.inside.nodes.items =
    asked_known c.self.inside.nodes.items c.args.replica c.args.object has in
    search rules

pub invariant_of-self : goal.invariant_of-self
invariant_of-self g c =
    let r = c.args.replica in
    let nodes = c.self.inside.nodes.items in
    let has = subst (λ v. HasObject v.shelves r c.args.object) (sym c.self.view_is) c.in_ok-admit_question.ensures.ok in
    let found =
    found_at nodes r c.index_mut.result.now (asked_known nodes r c.args.object has) c.index_mut.ensures.value in
    looked_holds c.self.inside.config c.self.inside.nodes.items c.self.inside.journal c.self.invariant r
    c.index_mut.result.now found c.ask.new.self c.ask.ensures.replica c.ask.ensures.objects c.ask.ensures.within

pub returns-in_default-clause-keeps : goal.returns-in_default-clause-keeps
returns-in_default-clause-keeps g c =
    let r = c.args.replica in
    let nodes = c.self.inside.nodes.items in
    let has = subst (λ v. HasObject v.shelves r c.args.object) (sym c.self.view_is) c.in_ok-admit_question.ensures.ok in
    let found =
    found_at nodes r c.index_mut.result.now (asked_known nodes r c.args.object has) c.index_mut.ensures.value in
    looked_keeps c.self.inside.config c.self.inside.nodes.items c.self.inside.journal c.self.invariant r
    c.index_mut.result.now found c.ask.new.self c.ask.ensures.replica c.ask.ensures.objects c.ask.ensures.within
    c.self.view_is

pub invariant_of-self-2 : goal.invariant_of-self-2
invariant_of-self-2 g c =
    let r = c.args.replica in
    let nodes = c.self.inside.nodes.items in
    let has = subst (λ v. HasObject v.shelves r c.args.object) (sym c.self.view_is) c.in_ok-admit_question.ensures.ok in
    let found =
    found_at nodes r c.index_mut.result.now (asked_known nodes r c.args.object has) c.index_mut.ensures.value in
    asked_holds c.self.inside.config c.self.inside.nodes.items c.self.inside.journal c.self.invariant r
    c.index_mut.result.now found c.ask.new.self c.in-Ok.ensures.follows c.args.object c.args.query.now c.in-Ok.answer
    c.in-Ok.ensures.ok c.note_answer.new.self c.note_answer.ensures.messages c.note_answer.ensures.learnt
    c.note_answer.ensures.count

pub returns-clause-step : goal.returns-clause-step
returns-clause-step g c events stands =
    let r = c.args.replica in
    let nodes = c.self.inside.nodes.items in
    let has = subst (λ v. HasObject v.shelves r c.args.object) (sym c.self.view_is) c.in_ok-admit_question.ensures.ok in
    let found =
    found_at nodes r c.index_mut.result.now (asked_known nodes r c.args.object has) c.index_mut.ensures.value in
    asked_plays c.self.inside.config c.self.inside.nodes.items c.self.inside.journal c.self.invariant r
    c.index_mut.result.now found c.ask.new.self c.in-Ok.ensures.follows c.args.object c.args.query.now c.in-Ok.answer
    c.in-Ok.ensures.ok c.note_answer.new.self c.note_answer.ensures.messages c.note_answer.ensures.learnt
    c.note_answer.ensures.count c.self.view_is events stands c.note_answer.ensures.step
