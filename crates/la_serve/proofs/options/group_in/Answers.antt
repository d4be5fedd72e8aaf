use Rattle.std.proofs.Common.{◌≡◌, ◌∙◌, arith, codes, length, sym}
use Rattle.std.specs.Str.Parse.{ParsesUnsigned, ExplainsUnsignedError, HasUnsignedDigitsIfOk}
use Rattle.clap.specs.Words.{found_of}
use Rattle.la_cli.proofs.lemmas.GivenNumbers.{some_number, taken_is_given}
use Rattle.la_proposer.specs.Majority.{votes_of}
use Rattle.la_serve.proofs.options.group_in.Goals as goal

pub unwrap-replicas-requires : goal.unwrap-replicas-requires
unwrap-replicas-requires c =
    some_number 8 (λ bs r. ParsesUnsigned 8 10 bs r × ExplainsUnsignedError 10 bs r × HasUnsignedDigitsIfOk bs r)
    (found_of c.args.given.now) (codes "replicas") 1 8 c.get_one.result c.requires.replicas (omega arith)
    c.get_one.ensures.value (λ u x g. g.0)

pub unwrap-own-requires : goal.unwrap-own-requires
unwrap-own-requires c =
    some_number 8 (λ bs r. ParsesUnsigned 8 10 bs r × ExplainsUnsignedError 10 bs r × HasUnsignedDigitsIfOk bs r)
    (found_of c.args.given.now) (codes "own") 0 7 c.get_one-2.result c.requires.own (omega arith)
    c.get_one-2.ensures.value (λ u x g. g.0)

pub unwrap-commits-requires : goal.unwrap-commits-requires
unwrap-commits-requires c =
    some_number 8 (λ bs r. ParsesUnsigned 8 10 bs r × ExplainsUnsignedError 10 bs r × HasUnsignedDigitsIfOk bs r)
    (found_of c.args.given.now) (codes "commits") 0 16 c.get_one-3.result c.requires.commits (omega arith)
    c.get_one-3.ensures.value (λ u x g. g.0)

pub unwrap-cap-requires : goal.unwrap-cap-requires
unwrap-cap-requires c =
    some_number 32 (λ bs r. ParsesUnsigned 32 10 bs r × ExplainsUnsignedError 10 bs r × HasUnsignedDigitsIfOk bs r)
    (found_of c.args.given.now) (codes "cap") 1 1000000 c.get_one-4.result c.requires.cap (omega arith)
    c.get_one-4.ensures.value (λ u x g. g.0)

pub votes_in-requires-clause-some : goal.votes_in-requires-clause-some
votes_in-requires-clause-some c =
    let found = found_of c.args.given.now in
    let replicas =
    taken_is_given 8 (λ bs r. ParsesUnsigned 8 10 bs r × ExplainsUnsignedError 10 bs r × HasUnsignedDigitsIfOk bs r)
    found (codes "replicas") 1 8 c.get_one.result c.unwrap-replicas.result c.requires.replicas (omega arith)
    c.unwrap-replicas.ensures c.get_one.ensures.none c.get_one.ensures.value (λ u x g. g.0) in
    replicas.1

pub votes_in-requires-clause-few : goal.votes_in-requires-clause-few
votes_in-requires-clause-few c =
    let found = found_of c.args.given.now in
    let replicas =
    taken_is_given 8 (λ bs r. ParsesUnsigned 8 10 bs r × ExplainsUnsignedError 10 bs r × HasUnsignedDigitsIfOk bs r)
    found (codes "replicas") 1 8 c.get_one.result c.unwrap-replicas.result c.requires.replicas (omega arith)
    c.unwrap-replicas.ensures c.get_one.ensures.none c.get_one.ensures.value (λ u x g. g.0) in
    replicas.2

pub returns-in_default-clause-error : goal.returns-in_default-clause-error
returns-in_default-clause-error c = c.in_default.ensures

pub returns-then-counts-from-clause-error : goal.returns-then-counts-from-clause-error
returns-then-counts-from-clause-error c =
    let found = found_of c.args.given.now in
    let replicas =
    taken_is_given 8 (λ bs r. ParsesUnsigned 8 10 bs r × ExplainsUnsignedError 10 bs r × HasUnsignedDigitsIfOk bs r)
    found (codes "replicas") 1 8 c.get_one.result c.unwrap-replicas.result c.requires.replicas (omega arith)
    c.unwrap-replicas.ensures c.get_one.ensures.none c.get_one.ensures.value (λ u x g. g.0) in (
      replicas.0,
      votes_of c.in-Some.votes,
      c.in-Some.ensures,
      c.len-counts.ensures.len,
      λ same. c.if-counts-from.true (same ∙ sym c.from.ensures),
    )

pub returns-then-own-replicas-clause-error : goal.returns-then-own-replicas-clause-error
returns-then-own-replicas-clause-error c =
    let found = found_of c.args.given.now in
    let replicas =
    taken_is_given 8 (λ bs r. ParsesUnsigned 8 10 bs r × ExplainsUnsignedError 10 bs r × HasUnsignedDigitsIfOk bs r)
    found (codes "replicas") 1 8 c.get_one.result c.unwrap-replicas.result c.requires.replicas (omega arith)
    c.unwrap-replicas.ensures c.get_one.ensures.none c.get_one.ensures.value (λ u x g. g.0) in
    let own =
    taken_is_given 8 (λ bs r. ParsesUnsigned 8 10 bs r × ExplainsUnsignedError 10 bs r × HasUnsignedDigitsIfOk bs r)
    found (codes "own") 0 7 c.get_one-2.result c.unwrap-own.result c.requires.own (omega arith)
    c.unwrap-own.ensures c.get_one-2.ensures.none c.get_one-2.ensures.value (λ u x g. g.0) in
    (own.0, replicas.0, c.if-own-replicas.true)

pub returns-clause-ok : goal.returns-clause-ok
returns-clause-ok c =
    let found = found_of c.args.given.now in
    let replicas =
    taken_is_given 8 (λ bs r. ParsesUnsigned 8 10 bs r × ExplainsUnsignedError 10 bs r × HasUnsignedDigitsIfOk bs r)
    found (codes "replicas") 1 8 c.get_one.result c.unwrap-replicas.result c.requires.replicas (omega arith)
    c.unwrap-replicas.ensures c.get_one.ensures.none c.get_one.ensures.value (λ u x g. g.0) in
    let own =
    taken_is_given 8 (λ bs r. ParsesUnsigned 8 10 bs r × ExplainsUnsignedError 10 bs r × HasUnsignedDigitsIfOk bs r)
    found (codes "own") 0 7 c.get_one-2.result c.unwrap-own.result c.requires.own (omega arith)
    c.unwrap-own.ensures c.get_one-2.ensures.none c.get_one-2.ensures.value (λ u x g. g.0) in
    let commits =
    taken_is_given 8 (λ bs r. ParsesUnsigned 8 10 bs r × ExplainsUnsignedError 10 bs r × HasUnsignedDigitsIfOk bs r)
    found (codes "commits") 0 16 c.get_one-3.result c.unwrap-commits.result c.requires.commits (omega arith)
    c.unwrap-commits.ensures c.get_one-3.ensures.none c.get_one-3.ensures.value (λ u x g. g.0) in
    let cap =
    taken_is_given 32 (λ bs r. ParsesUnsigned 32 10 bs r × ExplainsUnsignedError 10 bs r × HasUnsignedDigitsIfOk bs r)
    found (codes "cap") 1 1000000 c.get_one-4.result c.unwrap-cap.result c.requires.cap (omega arith)
    c.unwrap-cap.ensures c.get_one-4.ensures.none c.get_one-4.ensures.value (λ u x g. g.0) in
    let same : c.unwrap-replicas.result ≡ length (votes_of c.in-Some.votes) =
    sym c.from.ensures ∙ sym c.if-counts-from.false ∙ c.len-counts.ensures.len in
    record {
      replicas_given = replicas.0;
      own_given = own.0;
      commits_given = commits.0;
      cap_given = cap.0;
      votes_given = c.in-Some.ensures;
      is_group = record {
        group = record { replicas = same; some = replicas.1; few = replicas.2; cap_some = cap.1; cap_most = cap.2 };
        commits = commits.2;
      };
      within = c.if-own-replicas.false;
    }
