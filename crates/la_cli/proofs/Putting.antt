-- What is put down while events are played: the lines of those so far, behind the header.
use Rattle.std.proofs.Common.{◌≡◌, ℕ, suc, ◌+◌, ◌<◌, ◌≤◌, List, [], ◌∷◌, ◌++◌, length, map, get_or, refl, ap, ap₂, sym, ◌∙◌, append-nil, append_assoc, length-append, arith}
use Rattle.la_object.specs.Shelves.{ShelfState}
use Rattle.la_node.specs.declared.config.Config.{Config}
use Rattle.la_world.specs.declared.event.Event.{Event}
use Rattle.la_world.specs.declared.report.Line.{Line}
use Rattle.la_world.specs.declared.report.Report.{Report}
use Rattle.la_world.specs.Groups.{group_of}
use Rattle.la_world.specs.Events.{event_of}
use Rattle.la_world.specs.Report.{report}
use Rattle.la_world.specs.Printable.{IsPrintableLine}
use Rattle.la_world.specs.StandsFor.{World, kinds_of, StandsFor}
use Rattle.la_world.specs.Calls.{RunGoesOn, report_after}
use Rattle.la_world.proofs.lemmas.Playback.{ran, HasPlayed, played_none, played_more, played_all}
use Rattle.la_script.specs.declared.script.Version.{Version}
use Rattle.la_script.specs.Text.{numbered_text, lines_text, header_text, ending_text, text_of}
use Rattle.la_cli.specs.Play.{group_shelves, text_by}

-- after so many events the world is this, and the text
pub record HasPut (version : Version) (c : Config) (shelves : List ShelfState) (es : List Event) (i : ℕ) (w : World)
    (text : List ℕ) : Type 0 where
  pub lines : List Line
  pub many : length lines ≡ i
  pub played : HasPlayed c (kinds_of shelves) es i w lines
  pub text_is : text ≡ header_text version c ++ lines_text 1 lines

lines_text_more : (n : ℕ) (lines : List Line) (line : Line)
    → lines_text n (lines ++ line ∷ []) ≡ lines_text n lines ++ numbered_text (n + length lines) line
lines_text_more n [] line =
    append-nil (numbered_text n line) ∙ ap (λ k. numbered_text k line) (let e : n ≡ n + 0 = omega arith in e)
lines_text_more n (x ∷ lines) line =
    ap (λ t. numbered_text n x ++ t)
    (lines_text_more (n + 1) lines line
    ∙ ap (λ k. lines_text (n + 1) lines ++ numbered_text k line)
    (let e : n + 1 + length lines ≡ n + suc (length lines) = omega arith in e))
    ∙ sym (append_assoc (numbered_text n x) (lines_text (n + 1) lines) (numbered_text (n + suc (length lines)) line))

pub put_none : (version : Version) (c : Config) (shelves : List ShelfState) (es : List Event) (w : World)
    (before text : List ℕ) → w.config ≡ c → w.shelves ≡ shelves → StandsFor w [] → before ≡ []
    → text ≡ before ++ header_text version c → HasPut version c shelves es 0 w text
put_none version c shelves es w before text config same stands none is = record {
  lines = [];
  many = refl;
  played = played_none c shelves es w config same stands;
  text_is = is ∙ ap (λ t. t ++ header_text version c) none ∙ sym (append-nil (header_text version c));
}

module _ (version : Version) (c : Config) (shelves : List ShelfState) (es : List Event) (i : ℕ) (w : World)
    (text : List ℕ) (h : HasPut version c shelves es i w text) where
  -- one event more
  pub put_more : (d : Event) (line : Line) (after : World) (more : List ℕ) → i < length es
      → RunGoesOn w (ran (group_of c (kinds_of shelves)) es i) (event_of (get_or es i d)) line after → IsPrintableLine line
      → more ≡ text ++ numbered_text (i + 1) line → HasPut version c shelves es (i + 1) after more
  put_more d line after more lt on printable is = record {
    lines = h.lines ++ line ∷ [];
    many = length-append h.lines (line ∷ []) ∙ ap (λ k. k + 1) h.many;
    played =
        played_more c (kinds_of shelves) es i w h.lines h.played d line after (h.lines ++ line ∷ []) lt on printable refl;
    text_is = is
        ∙ ap (λ t. t ++ numbered_text (i + 1) line) h.text_is
        ∙ append_assoc (header_text version c) (lines_text 1 h.lines) (numbered_text (i + 1) line)
        ∙ ap (λ t. header_text version c ++ t)
        (sym
        (lines_text_more 1 h.lines line
        ∙ ap (λ k. lines_text 1 h.lines ++ numbered_text k line)
        (let many = h.many in let e : 1 + length h.lines ≡ i + 1 = omega arith in e)));
  }

  -- all of them, and what is behind their lines
  pub put_all : (all : List ShelfState) (made : Report) (whole : List ℕ) → shelves ≡ group_shelves c all → length es ≤ i
      → made ≡ report_after w (ran (group_of c (kinds_of shelves)) es i).accepted [] → whole ≡ text ++ ending_text made
      → whole ≡ text_by version c es all
  put_all all made whole used le is adds =
      let ended = ran (group_of c (kinds_of shelves)) es i in
      let full : Report = report_after w ended.accepted h.lines in
      adds
      ∙ ap₂ (λ t e. t ++ ending_text e) h.text_is is
      ∙ ap (λ (k : Config). header_text version k ++ lines_text 1 h.lines ++ ending_text full) (sym h.played.config)
      ∙ ap (text_of version) (played_all c (kinds_of shelves) es i w h.lines h.played h.lines refl le)
      ∙ ap (λ (s : List ShelfState). text_of version (report c (kinds_of s) (map event_of es))) used
