use Rattle.std.proofs.Common.{rules, ◌≢◌, inl, inr, refl}
use Rattle.std.proofs.lemmas.Result.{MatchResult-from_both}
use Rattle.clap.specs.Words.{kind_of}
use Rattle.clap.specs.declared.error.kind.ErrorKind.TheVariants.{OutOfMemory, DisplayHelp, DisplayVersion}
use Rattle.la_cli.specs.Calls.{IsText}
use Rattle.la_cli.proofs.Ending.{words_are_mistaken, words_ask_for_text}
use Rattle.la_cli.proofs.program.end_without_call.Goals as goal

pub returns-then-eq : goal.returns-then-eq
returns-then-eq g c found has left = inr (inr (inr (record { unread = refl; unwritten = refl; tells = c.end_with.ensures })))

pub returns-in_default : goal.returns-in_default
returns-in_default g c found has left = inr (inr (inr (record { unread = refl; unwritten = refl; tells = c.end_with-in_default.ensures })))

pub returns-then-use_stderr : goal.returns-then-use_stderr
returns-then-use_stderr g c found has left =
    let other : kind_of c.args.error.now ≢ OutOfMemory = search rules in
    let help : kind_of c.args.error.now ≢ DisplayHelp = search rules in
    let version : kind_of c.args.error.now ≢ DisplayVersion = search rules in
    inr (inr (inl (record {
      mistaken = words_are_mistaken found c.args.error.now has other help version;
      unread = refl;
      unwritten = refl;
      text = c.shown-bytes.result.now;
      some = c.shown-bytes.ensures;
      tells = record { status = refl; wrote = MatchResult-from_both c.tell_all.result _ _ c.tell_all.ensures.ok c.tell_all.ensures.err };
    })))

pub returns-in-Ok-write_all : goal.returns-in-Ok-write_all
returns-in-Ok-write_all g c found has left =
    let other : kind_of c.args.error.now ≢ OutOfMemory = search rules in
    let text : IsText (kind_of c.args.error.now) = search rules in
    inl (record {
      asked = words_ask_for_text found c.args.error.now has other text;
      unread = refl;
      text = c.shown-bytes.result.now;
      some = c.shown-bytes.ensures;
      wrote = c.in-Ok-write_all.ensures.ok;
      silent = refl;
      status = refl;
    })

pub returns : goal.returns
returns g c found has left =
    let other : kind_of c.args.error.now ≢ OutOfMemory = search rules in
    let text : IsText (kind_of c.args.error.now) = search rules in
    inr (inl (record {
      asked = words_ask_for_text found c.args.error.now has other text;
      unread = refl;
      text = c.shown-bytes.result.now;
      some = c.shown-bytes.ensures;
      wrote = c.in-Err.ensures.err;
      tells = c.end_with-in-Err.ensures;
    }))
