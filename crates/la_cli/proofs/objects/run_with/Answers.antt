use Rattle.std.proofs.Common.{map, string_bytes, List, inr, refl, subst}
use Rattle.la_object.specs.Shelves.{ShelfState}
use Rattle.la_cli.specs.declared.error.PlayFault.TheVariants.{Memory}
use Rattle.la_cli.specs.Program.{IsProgramEnd, heard, streamed}
use Rattle.la_cli.proofs.Ending.{a_told_fault_is_no_good_end}
use Rattle.la_cli.proofs.objects.run_with.Goals as goal

pub returns-in-Ok : goal.returns-in-Ok
returns-in-Ok g c =
    let told = c.run_words.ensures.told in
    let it = streamed g.R.Read.remaining g.W.Write.contents (c.args.input.now, c.args.output.now)
    (c.run_words.new.input, c.run_words.new.output) in
    let all = heard g.E.Write.contents g.E.Listener.refuses c.args.errors.now c.run_words.new.errors in
    record {
      told = told;
      ended =
          subst
          (λ (shelves : List ShelfState).
          IsProgramEnd (map string_bytes c.args.words.now) shelves it all (record { status = c.run_words.result; told = told }))
          c.in-Ok.ensures.ok c.run_words.ensures.ended;
    }

pub returns-in-Err : goal.returns-in-Err
returns-in-Err g c =
    let tells = c.end_without_words.ensures.memory refl in
    record {
      told = c.end_without_words.result.told;
      ended = record {
        ends = inr (inr (inr (inr (inr (inr (record { unread = refl; unwritten = refl; tells = tells }))))));
        done = λ zero. absurd (a_told_fault_is_no_good_end _ Memory c.end_without_words.result tells zero);
      };
    }
