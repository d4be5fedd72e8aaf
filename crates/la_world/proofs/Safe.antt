-- The safety of adopt-commit, of a world and of a list that is played.
use Rattle.std.proofs.Common.{◌≡◌, suc, List, [], ◌∷◌, ◌++◌, length, reverse, Option, Some, None, Contains, refl, ap, ap₂, sym, ◌∙◌, subst, arith, inl, inr}
use Rattle.std.proofs.lemmas.List.{append-nil, length-reverse, reverse-append, reverse-reverse}
use Rattle.std.proofs.lemmas.List.Elements.{Contains-append_left, Contains-push}
use Rattle.la_set.proofs.lemmas.Filters.{Contains-none, Contains-cons_cases}
use Rattle.la_world.specs.declared.error.Refusal.{Refusal}
use Rattle.la_world.specs.declared.report.Decision.{Decision}
use Rattle.la_world.specs.declared.report.Line.{Line}
use Rattle.la_world.specs.declared.report.Line.TheVariants.{Done, Refused}
use Rattle.la_world.specs.Groups.{Group, group_of}
use Rattle.la_world.specs.Events.{Event}
use Rattle.la_world.specs.Trace.{Trace}
use Rattle.la_world.specs.Playing.{trace}
use Rattle.la_world.specs.Outcomes.{decisions}
use Rattle.la_world.specs.Report.{refused, line_of, Run, runs, runs_on, accepted_among}
use Rattle.la_world.specs.StandsFor.{World, kinds_of, group_in, StandsFor, IsLegalTrace}
use Rattle.la_world.specs.Calls.{decisions_in}
use Rattle.la_world.specs.Headline.{IsAdoptCommit}
use Rattle.la_world.specs.Laws.{ReportedOutcomesAreSafe}
use Rattle.la_world.proofs.Agreement.{adopt_commit}
use Rattle.la_world.proofs.Returned.{decisions_are}
use Rattle.la_world.proofs.WorldSteps.{few_of}

-- of a world
pub returns_safely : (w : World) (events : List Event) → StandsFor w events → IsAdoptCommit events (decisions_in w)
returns_safely w events stands =
    subst (IsAdoptCommit events) (sym (decisions_are w events stands))
    (adopt_commit (group_in w) events (few_of w.config (kinds_of w.shelves) stands.config) stands.led.legal)

-- ## A list that is played

-- what is accepted of it is not refused
pub runs_legal : (g : Group) (es : List Event) → IsLegalTrace g (runs g es).accepted
unfolding runs
runs_legal g [] = tt
runs_legal g (e ∷ es) = go (refused g (trace g (runs g es).accepted) e) refl (runs_legal g es)
  where
    go : (o : Option Refusal) → refused g (trace g (runs g es).accepted) e ≡ o → IsLegalTrace g (runs g es).accepted
        → IsLegalTrace g (runs_on g (runs g es) e (trace g (runs g es).accepted) o).accepted
    go None is legal = (is, legal)
    go (Some name) is legal = legal

-- there is a line for each event
pub line_each : (g : Group) (es : List Event) → length (runs g es).lines ≡ length es
unfolding runs
line_each g [] = refl
line_each g (e ∷ es) = go (refused g (trace g (runs g es).accepted) e) (line_each g es)
  where
    go : (o : Option Refusal) → length (runs g es).lines ≡ length es
        → length (runs_on g (runs g es) e (trace g (runs g es).accepted) o).lines ≡ suc (length es)
    go None each = ap suc each
    go (Some name) each = ap suc each

among-push : (es : List Event) (ls : List Line) (e : Event) (l : Line) → length es ≡ length ls
    → accepted_among (es ++ e ∷ []) (ls ++ l ∷ []) ≡ accepted_among es ls ++ accepted_among (e ∷ []) (l ∷ [])
among-push [] [] e l same = refl
among-push [] (k ∷ ls) e l same = absurd (omega (arith, same))
among-push (d ∷ es) [] e l same = absurd (omega (arith, same))
among-push (d ∷ es) (Done s ∷ ls) e l same = ap (λ xs. d ∷ xs) (among-push es ls e l (omega (arith, same)))
among-push (d ∷ es) (Refused name ∷ ls) e l same = among-push es ls e l (omega (arith, same))

-- the events that were accepted are those whose line says so
pub accepted_are : (g : Group) (es : List Event)
    → accepted_among (reverse es) (reverse (runs g es).lines) ≡ reverse (runs g es).accepted
unfolding runs
accepted_are g [] = refl
accepted_are g (e ∷ es) = go (refused g t e) (accepted_are g es)
  where
    t : Trace
    t = trace g (runs g es).accepted

    ran : Run
    ran = runs g es

    same : length (reverse es) ≡ length (reverse ran.lines)
    same = length-reverse es ∙ sym (line_each g es) ∙ sym (length-reverse ran.lines)

    pushed : (l : Line) → accepted_among (reverse es) (reverse ran.lines) ≡ reverse ran.accepted
        → accepted_among (reverse (e ∷ es)) (reverse (l ∷ ran.lines))
        ≡ reverse ran.accepted ++ accepted_among (e ∷ []) (l ∷ [])
    pushed l before =
        ap₂ accepted_among (reverse-append (e ∷ []) es) (reverse-append (l ∷ []) ran.lines)
        ∙ among-push (reverse es) (reverse ran.lines) e l same
        ∙ ap (λ xs. xs ++ accepted_among (e ∷ []) (l ∷ [])) before

    go : (o : Option Refusal) → accepted_among (reverse es) (reverse ran.lines) ≡ reverse ran.accepted
        → accepted_among (reverse (e ∷ es)) (reverse (runs_on g ran e t o).lines) ≡ reverse (runs_on g ran e t o).accepted
    go None before = pushed (line_of g t e) before ∙ sym (reverse-append (e ∷ []) ran.accepted)
    go (Some name) before = pushed (Refused name) before ∙ append-nil (reverse ran.accepted)

Contains-reverse : {X : Type 0} (xs : List X) (x : X) → Contains xs x → Contains (reverse xs) x
Contains-reverse [] x has = absurd (Contains-none x has)
Contains-reverse (y ∷ xs) x has = subst (λ zs. Contains zs x) (sym (reverse-append (y ∷ []) xs)) (elim (Contains-cons_cases y xs x has) [
  | inl e ↦ subst (Contains (reverse xs ++ y ∷ [])) e (Contains-push (reverse xs) y)
  | inr later ↦ Contains-append_left (reverse xs) (y ∷ []) x (Contains-reverse xs x later)
])

-- in whatever order the events are listed
in_order : (events : List Event) (returned : List Decision) → IsAdoptCommit events returned
    → IsAdoptCommit (reverse events) returned
in_order events returned h = record {
  agree = h.agree;
  proposed = λ x has. let p = h.proposed x has in (p.0, Contains-reverse events _ p.1);
  unanimous = λ k value one. h.unanimous k value (λ r other was. one r other (Contains-reverse events _ was));
}

pub reported : ReportedOutcomesAreSafe
reported c kinds events is =
    let g = group_of c kinds in
    let es = reverse events in
    let accepted = (runs g es).accepted in
    subst (λ xs. IsAdoptCommit xs (decisions g (trace g accepted)))
    (sym (ap (λ xs. accepted_among xs (reverse (runs g es).lines)) (sym (reverse-reverse events)) ∙ accepted_are g es))
    (in_order accepted (decisions g (trace g accepted)) (adopt_commit g accepted (few_of c kinds is) (runs_legal g es)))
