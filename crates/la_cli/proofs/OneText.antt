-- There is one text for the bytes of a script: it is a function of what they say.
use Rattle.std.proofs.Common.{◌≡◌, ℕ, ◌∙◌, ap, sym, List, ◌++◌, map, take, length, codes, Result, Ok, Err}
use Rattle.std.specs.Fmt.{decimal}
use Rattle.la_object.specs.declared.kind.Kind.{Kind}
use Rattle.la_object.specs.Shelves.{ShelfState}
use Rattle.la_node.specs.Configs.{IsConfig}
use Rattle.la_world.specs.Groups.{Group}
use Rattle.la_world.specs.Events.{event_of}
use Rattle.la_world.specs.Outcomes.{decisions}
use Rattle.la_world.specs.Report.{report_lines, views, trace_of}
use Rattle.la_world.specs.StandsFor.{kinds_of}
use Rattle.la_script.specs.declared.error.ScriptFault.{ScriptFault}
use Rattle.la_script.specs.declared.script.Script.{Script}
use Rattle.la_script.specs.Scripts.{SaidScript, said_by}
use Rattle.la_script.specs.Values.{HeaderGroup}
use Rattle.la_script.specs.Headers.{version_line}
use Rattle.la_script.specs.Text.{votes_text, lines_text, views_text, decisions_text}
use Rattle.la_cli.specs.Play.{report_text, SaysScript, AnswersScript}

-- the group of a script's header, with these kinds of objects
abbrev group_with : HeaderGroup → List (List (ℕ × Kind)) → Group
group_with h kinds = record { votes = h.votes; commits = h.commits; cap = h.cap; kinds = kinds }

-- the text for n replicas with these shelves, of what a script says
abbrev text_for : List ShelfState → ℕ → SaidScript → List ℕ
text_for shelves n said =
    let g = group_with said.group (kinds_of (take n shelves)) in
    (version_line said.version ++ codes "\n"
    ++ (codes "replicas " ++ decimal n ++ codes " commits " ++ decimal said.group.commits ++ codes " cap "
    ++ decimal said.group.cap ++ codes "\n") ++ votes_text said.version said.group.votes)
    ++ lines_text 1 (report_lines g (map event_of said.events))
    ++ (views_text 0 (views g (trace_of g (map event_of said.events)))
    ++ decisions_text (decisions g (trace_of g (map event_of said.events))))

abbrev text_of_said : List ShelfState → SaidScript → List ℕ
text_of_said shelves said = text_for shelves (length said.group.votes) said

of_said : (shelves : List ShelfState) (s : Script) → IsConfig s.config
    → report_text s shelves ≡ text_of_said shelves (said_by s)
of_said shelves s is = ap (λ n. text_for shelves n (said_by s)) is.group.replicas

abbrev ok_or : SaidScript → Result SaidScript ScriptFault → SaidScript
ok_or otherwise (Ok said) = said
ok_or otherwise (Err fault) = otherwise

pub one_text : (shelves : List ShelfState) (input : List ℕ) (s t : Script) → SaysScript input s → SaysScript input t
    → report_text s shelves ≡ report_text t shelves
one_text shelves input s t p q =
    of_said shelves s p.config ∙ ap (text_of_said shelves) (ap (ok_or (said_by s)) (sym p.said ∙ q.said))
    ∙ sym (of_said shelves t q.config)

pub answers : (shelves : List ShelfState) (input text : List ℕ) (s : Script) → SaysScript input s → text ≡ report_text s shelves
    → AnswersScript shelves input text
answers shelves input text s p is = record {
  script = s;
  says = p;
  is_text = is;
  only = λ other q. is ∙ one_text shelves input s other p q;
}
