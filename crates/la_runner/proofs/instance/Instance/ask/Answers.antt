use Rattle.std.proofs.Common.{sym, subst, refl, ◌<◌}
use Rattle.la_runner.proofs.Asked.{goes_of, learnt_of, stays_of, vain_of, at_place, acceptor_there, heard_of_one, missed_of_one}
use Rattle.la_runner.proofs.Larger.{grown_at}
use Rattle.la_runner.proofs.instance.Instance.ask.Goals as goal

pub returns-clause-asks : goal.returns-clause-asks
returns-clause-asks g c =
    let ps = c.args.self.now.passes.items in
    let known = c.requires.awaited.known in
    let within = subst (λ n. c.args.from < n) (sym c.requires.of.sound.sizes) known in
    let at = at_place ps c.args.from c.index_mut.result.now within c.index_mut.ensures.value in
    let offers = c.ask_one.ensures.offers in
    record {
      goes =
          goes_of c.args.self.now.proposer ps c.args.from c.index_mut.result.now c.ask_one.new.pass c.requires.of.sound
          at c.ask_one.ensures.pass.is c.ask_one.ensures.pass.acceptor c.ask_one.new.proposer known
          c.requires.awaited.is_open c.ask_one.result offers.state offers.ok offers.err;
      heard =
          heard_of_one c.args.self.now.proposer ps c.args.from c.index_mut.result.now c.ask_one.new.pass at
          c.ask_one.new.proposer known c.ask_one.result offers.ok;
      missed =
          missed_of_one c.args.self.now.proposer ps c.args.from c.index_mut.result.now c.ask_one.new.pass at
          c.ask_one.new.proposer c.ask_one.result offers.err;
      error = offers.error;
    }

pub returns-clause-leaves : goal.returns-clause-leaves
returns-clause-leaves g c =
    let ps = c.args.self.now.passes.items in
    let known = c.requires.awaited.known in
    let within = subst (λ n. c.args.from < n) (sym c.requires.of.sound.sizes) known in
    let at = at_place ps c.args.from c.index_mut.result.now within c.index_mut.ensures.value in
    let offers = c.ask_one.ensures.offers in
    record {
      learnt =
          learnt_of c.args.self.now.proposer ps c.args.from c.index_mut.result.now c.ask_one.new.pass
          c.requires.of.sound at c.ask_one.ensures.pass.is c.ask_one.ensures.pass.acceptor c.ask_one.new.proposer known
          c.requires.awaited.is_open c.ask_one.result offers.state offers.ok;
      stays =
          stays_of c.args.self.now.proposer ps c.args.from c.index_mut.result.now c.ask_one.new.pass c.requires.of.sound
          at c.ask_one.ensures.pass.is c.ask_one.ensures.pass.acceptor c.ask_one.new.proposer known
          c.requires.awaited.is_open c.ask_one.result offers.state offers.ok;
      vain =
          vain_of c.args.self.now.proposer c.ask_one.new.proposer c.index_mut.result.now c.ask_one.new.pass
          c.ask_one.result offers.err;
      kept = refl;
      view = refl;
    }

pub ask_one-requires-clause-pass : goal.ask_one-requires-clause-pass
ask_one-requires-clause-pass g c κs w =
    let ps = c.args.self.now.passes.items in
    let within = subst (λ n. c.args.from < n) (sym c.requires.of.sound.sizes) c.requires.awaited.known in
    let at = at_place ps c.args.from c.index_mut.result.now within c.index_mut.ensures.value in
    record {
      acceptor_is =
          acceptor_there ps c.args.acceptors.now c.args.from c.index_mut.result.now c.index-acceptors-from.result
          c.requires.of.acceptors at c.index-acceptors-from.is;
      grown = grown_at c.args.self.now.proposer ps c.args.from c.index_mut.result.now c.requires.of.sound at;
    }
