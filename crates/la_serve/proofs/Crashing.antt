-- What a crash leaves of the journal, as lines are taken.
use Rattle.std.proofs.Common.{◌≡◌, inl, ⊎_elim, ℕ, ◌+◌, ◌≤◌, List, [], ◌∷◌, ◌++◌, length, take, refl, sym, ap, subst}
use Rattle.std.proofs.Common.{◌∙◌, arith, append-nil, append_assoc, Option, Some}
use Rattle.std.proofs.Math.Seq.{take-append-add}
use Rattle.std.proofs.lemmas.List.{map-append, take_at, take-append-le, length-append, length-map}
use Rattle.std.proofs.lemmas.Grind.{flat_map-append}
use Rattle.la_journal.specs.Disk.{LeavesOnly}
use Rattle.la_journal.specs.Durable.{IsSettled}
use Rattle.la_journal.specs.Giving.{GivenAt}
use Rattle.la_journal.specs.Machine.{steps, steps_from, goes_on, LeadsToSome}
use Rattle.la_journal.specs.Served.{LeadsToAtLeast}
use Rattle.la_journal.specs.Records.{ended}
use Rattle.la_durable.specs.CallLines.{CallLine}
use Rattle.la_durable.specs.Nodes.{step}
use Rattle.la_durable.specs.Restarts.{leads_from}
use Rattle.la_serve.specs.Turns.{Turn}
use Rattle.la_serve.specs.Serving.{kept_lines}
use Rattle.la_serve.specs.Giving.{gives}
use Rattle.la_serve.specs.Crashes.{in_order, AreTextsOf, AreFrontsOf, kept_count, KeepsGiven, Leaves, Commits}
use Rattle.la_serve.specs.Crashes.{CommitsSome}
use Rattle.la_serve.proofs.Leading.{Led}
use Rattle.la_replica.specs.ReplicaState.{ReplicaState}

pub steps_join : (xs ys : List CallLine) (state : Option ReplicaState)
    → steps_from step (xs ++ ys) state ≡ steps_from step ys (steps_from step xs state)
steps_join [] ys state = refl
steps_join (x ∷ xs) ys state = steps_join xs ys (goes_on step state x)

pub led_none : (n : ReplicaState) → Led n n []
led_none n = record { calls = []; lines = refl; led = refl }

pub led_join : (n between after : ReplicaState) (turns last : List Turn) → Led n between turns → Led between after last
    → Led n after (turns ++ last)
led_join n between after turns last first then = record {
  calls = first.calls ++ then.calls;
  lines =
      flat_map-append (λ (t : Turn). t.kept) turns last ∙ (λ i. first.lines i ++ then.lines i)
      ∙ sym (map-append (λ (c : CallLine). c.line) first.calls then.calls);
  led = steps_join first.calls then.calls (Some n) ∙ ap (steps_from step then.calls) first.led ∙ then.led;
}

-- a list with something behind, and its first part
take_front : {A : Type 0} (xs ys : List A) → take (length xs) (xs ++ ys) ≡ xs
take_front xs ys = take_at xs ys (length xs) refl

-- ## What was given out

pub as_fronts : (groups : List (List Turn)) (given : List GivenAt) → AreTextsOf groups given → AreFrontsOf groups given
as_fronts [] [] are = tt
as_fronts [] (g ∷ given) are = absurd are
as_fronts (group ∷ before) [] are = absurd are
as_fronts (group ∷ before) (g ∷ given) are = (([], append-nil g.text ∙ are.0), are.1)

kept_more : (before : List (List Turn)) (group : List Turn)
    → kept_count (group ∷ before) ≡ kept_count before + length (kept_lines group)
kept_more before group =
    ap length (flat_map-append (λ (t : Turn). t.kept) (in_order before) group)
    ∙ length-append (kept_lines (in_order before)) (kept_lines group)

module _ (leads : List ℕ → Option ReplicaState) (n between : ReplicaState) (done later more : List CallLine)
    (led : steps step done n ≡ Some between) where
  -- the first some of the later ones more
  at_least : (c : List ℕ) → LeadsToSome leads step later between c
      → LeadsToAtLeast leads step (length done) (done ++ (later ++ more)) n c
  at_least c some = (
    length done + some.0,
    omega arith,
    omega (arith, some.1, length-append done (later ++ more), length-append later more),
    some.2 ∙ ap (steps_from step (take some.0 later)) (sym led) ∙ sym (steps_join done (take some.0 later) (Some n))
        ∙ ap (λ (l : List CallLine). steps step l n) (sym front),
  )
    where
      front : take (length done + some.0) (done ++ (later ++ more)) ≡ done ++ take some.0 later
      front =
          take-append-add done (later ++ more) some.0
          ∙ ap (λ (l : List CallLine). done ++ l) (take-append-le some.0 later more some.1)

  -- what was given out before is kept
  keeps_on : {D : Type 0} (moment : D → ℕ) (left_since : D → ℕ → List ℕ → Type 0) (mid new : D)
      → LeavesOnly moment left_since mid new (LeadsToSome leads step later between)
      → (groups : List (List Turn)) (given : List GivenAt) → kept_count groups ≤ length done
      → KeepsGiven (moment mid) (left_since mid) leads (done ++ (later ++ more)) n groups given
      → KeepsGiven (moment new) (left_since new) leads (done ++ (later ++ more)) n groups given
  keeps_on moment left_since mid new leaves [] given le keeps = tt
  keeps_on moment left_since mid new leaves (group ∷ before) [] le keeps = tt
  keeps_on moment left_since mid new leaves (group ∷ before) (g ∷ given) le keeps = (
    omega (arith, keeps.0, leaves.later),
    λ c left.
        ⊎_elim (λ was. keeps.1 c was)
        (λ some. let at = at_least c some in (at.0, omega (arith, le, at.1), at.2, at.3))
        (leaves.before g.moment c keeps.0 left),
    keeps_on moment left_since mid new leaves before given (omega (arith, le, kept_more before group)) keeps.2,
  )

module _ {D : Type 0} (seen : D → List ℕ) (may_leave : D → List ℕ → Type 0) (moment : D → ℕ)
    (left_since : D → ℕ → List ℕ → Type 0) where
  -- the lines of these turns are in the journal, what they come to was given out, and a crash left the first some
  pub record CrashSo (Texts : List (List Turn) → List GivenAt → Type 0) (n between : ReplicaState) (old now : D)
      (before after : List GivenAt) (turns : List Turn) : Type 0 where
    pub led : Led n between turns
    pub leads : (start : ReplicaState) → leads_from start (seen old) ≡ Some n
        → leads_from start (seen now) ≡ Some between
    pub leaves : (start : ReplicaState) → leads_from start (seen old) ≡ Some n
        → LeavesOnly moment left_since old now (LeadsToSome (leads_from start) step led.calls n)
    pub groups : List (List Turn)
    pub are : in_order groups ≡ turns
    pub given : List GivenAt
    pub behind : after ≡ given ++ before
    pub texts : Texts groups given
    pub keeps : (start : ReplicaState) → leads_from start (seen old) ≡ Some n → (more : List CallLine)
        → KeepsGiven (moment now) (left_since now) (leads_from start) (led.calls ++ more) n groups given

  pub crash_none : (n : ReplicaState) (disk : D) (given : List GivenAt) → IsSettled seen may_leave disk
      → ((c : List ℕ) → left_since disk (moment disk) c → may_leave disk c)
      → CrashSo AreTextsOf n n disk disk given given []
  unfolding led_none
  crash_none n disk given settled only_now = record {
    led = led_none n;
    leads = λ start was. was;
    leaves = λ start was. record {
      later = omega arith;
      each = λ c left. (0, omega arith, ap (leads_from start) (settled.durable c (only_now c left)) ∙ was);
      before = λ t c le left. inl left;
    };
    groups = [];
    are = refl;
    given = [];
    behind = refl;
    texts = tt;
    keeps = λ start was more. tt;
  }

  module _ (follow : (old mid new : D) (start first next : ReplicaState) (taken later : List CallLine)
      → LeavesOnly moment left_since old mid (LeadsToSome (leads_from start) step taken first)
      → steps step taken first ≡ Some next
      → LeavesOnly moment left_since mid new (LeadsToSome (leads_from start) step later next)
      → LeavesOnly moment left_since old new (LeadsToSome (leads_from start) step (taken ++ later) first))
      (n between after : ReplicaState) (old now new : D) (given_first given_now : List GivenAt) (turns last : List Turn)
      (staged : List ℕ)
      (so : CrashSo AreTextsOf n between old now given_first given_now turns) (then : Led between after last)
      (is : ended staged ≡ kept_lines last)
      (some : CommitsSome seen moment left_since staged now new) where
    throughout : (start : ReplicaState) → leads_from start (seen old) ≡ Some n
        → LeavesOnly moment left_since old new (LeadsToSome (leads_from start) step (so.led.calls ++ then.calls) n)
    throughout start was =
        follow old now new start n between so.led.calls then.calls (so.leaves start was) so.led.led
        (some start between then.calls (so.leads start was) (is ∙ then.lines))

    -- so many lines were kept so far
    count : kept_count so.groups ≡ length so.led.calls
    count =
        ap (λ (ts : List Turn). length (kept_lines ts)) so.are ∙ ap length so.led.lines
        ∙ length-map so.led.calls (λ (c : CallLine). c.line)

    kept_still : (start : ReplicaState) → leads_from start (seen old) ≡ Some n → (more : List CallLine)
        → KeepsGiven (moment new) (left_since new) (leads_from start) (so.led.calls ++ (then.calls ++ more)) n so.groups
        so.given
    kept_still start was more =
        keeps_on (leads_from start) n between so.led.calls then.calls more so.led.led moment left_since now new
        (some start between then.calls (so.leads start was) (is ∙ then.lines)) so.groups so.given
        (omega (arith, count)) (so.keeps start was (then.calls ++ more))

    -- all staged lines are there, and this was given out
    pub crash_more : (Texts : List (List Turn) → List GivenAt → Type 0) (text : List ℕ) (given_new : List GivenAt)
        → given_new ≡ gives moment new text given_now
        → ((groups : List (List Turn)) (given : List GivenAt) → AreTextsOf groups given
        → Texts (last ∷ groups) (record { moment = moment new; text = text } ∷ given))
        → ((c : List ℕ) → left_since new (moment new) c → may_leave new c)
        → Commits seen may_leave staged now new → CrashSo Texts n after old new given_first given_new (turns ++ last)
    unfolding led_join
    crash_more Texts text given_new gave texts only_now all = record {
      led = led_join n between after turns last so.led then;
      leads = led_on;
      leaves = throughout;
      groups = last ∷ so.groups;
      are = ap (λ (ts : List Turn). ts ++ last) so.are;
      given = record { moment = moment new; text = text } ∷ so.given;
      behind = gave ∙ ap (gives moment new text) so.behind;
      texts = texts so.groups so.given so.texts;
      keeps = λ start was more. (
        omega arith,
        λ c left. newest start was more c left,
        subst
            (λ (l : List CallLine).
            KeepsGiven (moment new) (left_since new) (leads_from start) l n so.groups so.given)
            (sym (append_assoc so.led.calls then.calls more)) (kept_still start was more),
      );
    }
      where
        led_on : (start : ReplicaState) → leads_from start (seen old) ≡ Some n
            → leads_from start (seen new) ≡ Some after
        led_on start was = all.leads start between then.calls (so.leads start was) (is ∙ then.lines) ∙ then.led

        all_led : steps step (so.led.calls ++ then.calls) n ≡ Some after
        all_led =
            steps_join so.led.calls then.calls (Some n) ∙ ap (steps_from step then.calls) so.led.led ∙ then.led

        newest_count : kept_count (last ∷ so.groups) ≡ length (so.led.calls ++ then.calls)
        newest_count =
            omega (
              arith,
              kept_more so.groups last,
              count,
              ap length then.lines,
              length-map then.calls (λ (c : CallLine). c.line),
              length-append so.led.calls then.calls,
            )

        newest : (start : ReplicaState) → leads_from start (seen old) ≡ Some n → (more : List CallLine) (c : List ℕ)
            → left_since new (moment new) c
            → LeadsToAtLeast (leads_from start) step (kept_count (last ∷ so.groups))
            ((so.led.calls ++ then.calls) ++ more) n c
        newest start was more c left = (
          length (so.led.calls ++ then.calls),
          omega (arith, newest_count),
          omega (arith, length-append (so.led.calls ++ then.calls) more),
          ap (leads_from start) (all.settled.durable c (only_now c left)) ∙ led_on start was ∙ sym all_led
              ∙ ap (λ (l : List CallLine). steps step l n) (sym (take_front (so.led.calls ++ then.calls) more)),
        )

    -- or the first some of them
    pub crash_some : ((t : ℕ) (c : List ℕ) → t ≤ moment new → may_leave new c → left_since new t c)
        → Leaves seen may_leave moment left_since n old new given_first given_now turns last
    crash_some counts_now = record {
      calls = so.led.calls;
      lines = so.led.lines;
      later = then.calls;
      last_lines = then.lines;
      between = between;
      led = so.led.led;
      any_moment = throughout;
      from_now = λ start was c left.
          let leaves = some start between then.calls (so.leads start was) (is ∙ then.lines) in
          leaves.each c (counts_now (moment now) c leaves.later left);
      groups = so.groups;
      are = so.are;
      given = so.given;
      behind = so.behind;
      texts = as_fronts so.groups so.given so.texts;
      keeps = λ start was.
          subst
          (λ (l : List CallLine).
          KeepsGiven (moment new) (left_since new) (leads_from start) (so.led.calls ++ l) n so.groups so.given)
          (append-nil then.calls) (kept_still start was []);
    }

  -- nothing is staged
  pub crash_all : (n between : ReplicaState) (old now : D) (before after : List GivenAt) (turns : List Turn)
      → CrashSo AreFrontsOf n between old now before after turns
      → IsSettled seen may_leave now → Leaves seen may_leave moment left_since n old now before after turns []
  crash_all n between old now before after turns so settled = record {
    calls = so.led.calls;
    lines = so.led.lines;
    later = [];
    last_lines = refl;
    between = between;
    led = so.led.led;
    any_moment =
        λ start was.
        subst (λ cs. LeavesOnly moment left_since old now (LeadsToSome (leads_from start) step cs n))
        (sym (append-nil so.led.calls)) (so.leaves start was);
    from_now =
        λ start was c left. (0, omega arith, ap (leads_from start) (settled.durable c left) ∙ so.leads start was);
    groups = so.groups;
    are = so.are;
    given = so.given;
    behind = so.behind;
    texts = so.texts;
    keeps = λ start was. so.keeps start was [];
  }
