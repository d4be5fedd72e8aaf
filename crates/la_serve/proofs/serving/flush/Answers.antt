use Rattle.std.proofs.Common.{◌≡◌, ℕ, List, subst}
use Rattle.std.specs.Io.KnownBytes.{Appends}
use Rattle.la_serve.specs.Giving.{gives}
use Rattle.la_serve.proofs.serving.flush.Goals as goal

pub returns-in_err-give-in-Ok-clause-any_moment : goal.returns-in_err-give-in-Ok-clause-any_moment
returns-in_err-give-in-Ok-clause-any_moment g c =
    λ start before calls was are. c.commit.ensures.any_moment c.requires.unclosed start before calls was are

pub returns-in_ok-give-in-Ok-clause-any_moment : goal.returns-in_ok-give-in-Ok-clause-any_moment
returns-in_ok-give-in-Ok-clause-any_moment g c =
    λ start before calls was are. c.commit.ensures.any_moment c.requires.unclosed start before calls was are

pub returns-in-Err-Disk-clause-any_moment : goal.returns-in-Err-Disk-clause-any_moment
returns-in-Err-Disk-clause-any_moment g c =
    λ start before calls was are. c.commit.ensures.any_moment c.requires.unclosed start before calls was are

pub returns-in-Err-Disk-2-clause-any_moment : goal.returns-in-Err-Disk-2-clause-any_moment
returns-in-Err-Disk-2-clause-any_moment g c =
    λ start before calls was are. c.commit.ensures.any_moment c.requires.unclosed start before calls was are

pub returns-in_ok-give-in-Ok-clause-ok : goal.returns-in_ok-give-in-Ok-clause-ok
returns-in_ok-give-in-Ok-clause-ok g c = record {
  wrote =
      subst
      (λ (h : List ℕ).
      Appends (g.W.Write.contents c.args.output.now.writer) (g.W.Write.contents c.give.new.self.writer) h)
      c.deref.ensures.value c.in_ok-give-in-Ok.ensures.ok;
  none_held = c.clear.ensures.items;
  none_staged = c.in-Ok.ensures.ok.2;
  commits = record {
    settled = c.in-Ok.ensures.«open» c.in-Ok.ensures.ok.0;
    lines = c.in-Ok.ensures.ok.1;
    leads = λ start before calls was are. c.in-Ok.ensures.leads start before calls was are;
  };
  some = λ start before calls was are. c.commit.ensures.any_moment c.requires.unclosed start before calls was are;
  given =
      subst
      (λ (h : List ℕ). c.give.new.self.given.texts ≡ gives g.D.Disk.moment c.commit.new.self.durable.disk h
      c.args.output.now.given.texts)
      c.deref.ensures.value c.give.ensures.given;
}
