-- What is believed of others is bounded by what was sent and said.
use Rattle.std.proofs.Common.{◌≡◌, ℕ, zero, suc, ◌<◌, ◌==◌, max, Bool, true, false, cond, List, [], ◌∷◌, length, fold}
use Rattle.std.proofs.Common.{Contains, slice_index_or, slice_set, refl, sym, ap, subst, arith, inl, inr}
use Rattle.std.proofs.lemmas.Bool.{cases_lt, false≢true}
use Rattle.la_set.specs.declared.counts.Counts.{Counts}
use Rattle.la_set.specs.Counts.{count_in, zero_counts}
use Rattle.la_set.proofs.lemmas.Counting.{count_in-from_counts, count_in-past}
use Rattle.la_set.proofs.lemmas.Filters.{Contains-first, Contains-later}
use Rattle.la_replica.specs.declared.parcel.Content.{Content}
use Rattle.la_replica.specs.declared.parcel.Content.TheVariants as content
use Rattle.la_replica.specs.declared.progress.Progress.{Progress}
use Rattle.la_replica.specs.Progress.{larger}
use Rattle.la_node.specs.declared.link.Letter.{Letter}
use Rattle.la_node.specs.declared.link.Link.{Link}
use Rattle.la_node.specs.declared.link.Links.{Links}
use Rattle.la_node.specs.declared.track.Track.{Track}
use Rattle.la_node.specs.Links.{no_link, track_base, heard_on, lacking_on, noted_on, asked_on}
use Rattle.la_node.specs.Links.{heard_link, answered_link, asked_link, noted_content, link_of, with_link, is_held}
use Rattle.la_node.specs.Links.{links_over, asked_with, reach_of}
use Rattle.la_node.specs.Links.{is_lacking}
use Rattle.la_node.specs.LinkRuns.{LinkCall, Said, Answered, Wrote, Asked, after_link, AreCountsWithin, IsFarWithin}
use Rattle.la_node.specs.LinkRuns.{ReachesWithin, IsCallWithin, BeliefsAreBounded, LackingIsBelieved}

-- ## Counts

zero_within : (most : Counts) → AreCountsWithin zero_counts most
zero_within most q = elim (cases_lt q 8) [
  | inl lt ↦ omega (arith, count_in-from_counts (λ r. 0) q lt)
  | inr le ↦ omega (arith, count_in-past zero_counts q le)
]

larger_within : (c d most : Counts) → AreCountsWithin c most → AreCountsWithin d most
    → AreCountsWithin (larger c d) most
larger_within c d most a b q = elim (cases_lt q 8) [
  | inl lt ↦ omega (arith, count_in-from_counts (λ r. max (count_in c r) (count_in d r)) q lt, a q, b q)
  | inr le ↦ omega (arith, count_in-past (larger c d) q le)
]

-- ## A track

record IsTrackWithin (t : Track) (most : Counts) : Type 0 where
  known : AreCountsWithin t.known most
  sent : AreCountsWithin t.sent most

base_within : (t : Track) (most : Counts) → IsTrackWithin t most → AreCountsWithin (track_base t) most
base_within t most is = larger_within t.known t.sent most is.known is.sent

heard_within : (t : Track) (most has : Counts) → IsTrackWithin t most → AreCountsWithin has most
    → IsTrackWithin (heard_on t has) most
heard_within t most has is few = record { known = few; sent = is.sent }

answered_within : (t : Track) (most has : Counts) (lacks : Bool) → IsTrackWithin t most → AreCountsWithin has most
    → IsTrackWithin (cond lacks (lacking_on t has) (heard_on t has)) most
answered_within t most has true is few = record { known = few; sent = few }
answered_within t most has false is few = heard_within t most has is few

noted_within : (t : Track) (most base reach : Counts) → IsTrackWithin t most → AreCountsWithin reach most
    → IsTrackWithin (noted_on t base reach) most
noted_within t most base reach is few =
    record { known = is.known; sent = larger_within t.sent reach most is.sent few }

asked_within : (t : Track) (most here : Counts) → IsTrackWithin t most → AreCountsWithin here most
    → IsTrackWithin (asked_on t here) most
asked_within t most here is few =
    record { known = is.known; sent = larger_within t.sent here most is.sent few }

-- ## A replica

record IsLinkWithin (l : Link) (most : Progress) : Type 0 where
  accepted : IsTrackWithin l.accepted most.accepted
  view : IsTrackWithin l.view most.view

none_within : (most : Progress) → IsLinkWithin no_link most
none_within most = record {
  accepted = record { known = zero_within most.accepted; sent = zero_within most.accepted };
  view = record { known = zero_within most.view; sent = zero_within most.view };
}

asked_link_within : (l : Link) (here most : Progress) → IsLinkWithin l most → IsFarWithin here most
    → IsLinkWithin (asked_link l here) most
asked_link_within l here most is few = record {
  accepted = asked_within l.accepted most.accepted here.accepted is.accepted few.accepted;
  view = asked_within l.view most.view here.view is.view few.view;
}

asked_if_within : (held : Bool) (l : Link) (here most : Progress) → IsLinkWithin l most → IsFarWithin here most
    → IsLinkWithin (cond held (asked_link l here) l) most
asked_if_within true l here most is few = asked_link_within l here most is few
asked_if_within false l here most is few = is

content_within : (l : Link) (c : Content) (most : Progress) → IsLinkWithin l most → ReachesWithin c most
    → IsLinkWithin (noted_content l c) most
content_within l (content.Offer d) most is few = record {
  accepted = noted_within l.accepted most.accepted d.base (reach_of d) is.accepted few;
  view = is.view;
}
content_within l content.Yes most is few = is
content_within l (content.No d) most is few = is
content_within l (content.Tell d) most is few =
    record { accepted = is.accepted; view = noted_within l.view most.view d.base (reach_of d) is.view few }

-- ## All of them

-- one is put in the place of another, or there is none
set_link : (P : Link → Type 0) (of : List Link) (r s : ℕ) (l : Link) → (r ≡ s → P l)
    → P (slice_index_or of s no_link) → P (slice_index_or (slice_set of r l) s no_link)
set_link P [] r s l here there = there
set_link P (x ∷ xs) zero zero l here there = here refl
set_link P (x ∷ xs) zero (suc s) l here there = there
set_link P (x ∷ xs) (suc r) zero l here there = there
set_link P (x ∷ xs) (suc r) (suc s) l here there = set_link P xs r s l (λ e. here (ap suc e)) there

module _ (replica : ℕ) (most : Progress) where
  abbrev IsWithin : Links → Type 0
  IsWithin links = IsLinkWithin (link_of links replica) most

  over_within : (here : Progress) → IsFarWithin here most → IsWithin (links_over here)
  over_within here few = go replica
    where
      l : IsLinkWithin (asked_link no_link here) most
      l = asked_link_within no_link here most (none_within most) few

      go : (r : ℕ) → IsLinkWithin (link_of (links_over here) r) most
      go zero = l
      go (suc zero) = l
      go (suc (suc zero)) = l
      go (suc (suc (suc zero))) = l
      go (suc (suc (suc (suc zero)))) = l
      go (suc (suc (suc (suc (suc zero))))) = l
      go (suc (suc (suc (suc (suc (suc zero)))))) = l
      go (suc (suc (suc (suc (suc (suc (suc zero))))))) = l
      go (suc (suc (suc (suc (suc (suc (suc (suc r)))))))) = none_within most

  asked_all_within : (links : Links) (here : Progress) → IsFarWithin here most
      → (r : ℕ) → IsLinkWithin (link_of links r) most → IsLinkWithin (link_of (asked_with links here) r) most
  asked_all_within links here few zero is =
      asked_if_within (is_held links 0) (link_of links 0) here most is few
  asked_all_within links here few (suc zero) is =
      asked_if_within (is_held links 1) (link_of links 1) here most is few
  asked_all_within links here few (suc (suc zero)) is =
      asked_if_within (is_held links 2) (link_of links 2) here most is few
  asked_all_within links here few (suc (suc (suc zero))) is =
      asked_if_within (is_held links 3) (link_of links 3) here most is few
  asked_all_within links here few (suc (suc (suc (suc zero)))) is =
      asked_if_within (is_held links 4) (link_of links 4) here most is few
  asked_all_within links here few (suc (suc (suc (suc (suc zero))))) is =
      asked_if_within (is_held links 5) (link_of links 5) here most is few
  asked_all_within links here few (suc (suc (suc (suc (suc (suc zero)))))) is =
      asked_if_within (is_held links 6) (link_of links 6) here most is few
  asked_all_within links here few (suc (suc (suc (suc (suc (suc (suc zero))))))) is =
      asked_if_within (is_held links 7) (link_of links 7) here most is few
  asked_all_within links here few (suc (suc (suc (suc (suc (suc (suc (suc r)))))))) is = none_within most

  written_within : (b : Bool) (links : Links) (letter : Letter)
      → (letter.parcel.to ≡ replica → ReachesWithin letter.parcel.content most) → IsWithin links
      → IsWithin
      (cond b (with_link links letter.parcel.to (noted_content (link_of links letter.parcel.to) letter.parcel.content))
      links)
  written_within false links letter few is = is
  written_within true links letter few is =
      let to = letter.parcel.to in
      set_link (λ l. IsLinkWithin l most) links.of to replica (noted_content (link_of links to) letter.parcel.content)
      (λ e.
      content_within (link_of links to) letter.parcel.content most
      (subst (λ r. IsLinkWithin (link_of links r) most) (sym e) is) (few e)) is

  call_within : (links : Links) (call : LinkCall) → IsCallWithin replica most call → IsWithin links
      → IsWithin (after_link links call)
  call_within links (Said r progress) few is =
      set_link (λ l. IsLinkWithin l most) links.of r replica (heard_link (link_of links r) progress)
      (λ e.
      let l = subst (λ q. IsLinkWithin (link_of links q) most) (sym e) is in
      record {
        accepted = heard_within _ most.accepted progress.accepted l.accepted (few e).accepted;
        view = heard_within _ most.view progress.view l.view (few e).view;
      }) is
  call_within links (Answered s) few is =
      set_link (λ l. IsLinkWithin l most) links.of s.from replica
      (answered_link (link_of links s.from) s.progress s.over)
      (λ e.
      let l = subst (λ q. IsLinkWithin (link_of links q) most) (sym e) is in
      record {
        accepted = answered_within _ most.accepted s.progress.accepted _ l.accepted (few e).accepted;
        view = answered_within _ most.view s.progress.view _ l.view (few e).view;
      }) is
  call_within links (Wrote letter) few is = written_within (letter.parcel.instance == 0) links letter few is
  call_within links (Asked here) few is = asked_all_within links here few replica is

  run_within : (calls : List LinkCall) (links : Links)
      → ((call : LinkCall) → Contains calls call → IsCallWithin replica most call) → IsWithin links
      → IsWithin (fold after_link links calls)
  run_within [] links few is = is
  run_within (call ∷ calls) links few is =
      run_within calls (after_link links call) (λ c has. few c (Contains-later call calls c has))
      (call_within links call (few call (Contains-first call calls)) is)

pub bounded : BeliefsAreBounded
bounded here calls replica most few all =
    let is = run_within replica most calls (links_over here) all (over_within replica most here few) in
    record {
      accepted = base_within _ most.accepted is.accepted;
      view = base_within _ most.view is.view;
    }

-- ## Once something is lacking

there : (of : List Link) (r : ℕ) (l : Link) → r < length of → slice_index_or (slice_set of r l) r no_link ≡ l
there [] r l lt = absurd (omega (arith, lt))
there (x ∷ xs) zero l lt = refl
there (x ∷ xs) (suc r) l lt = there xs r l (omega (arith, lt))

twice_within : (c : Counts) → AreCountsWithin (larger c c) c
twice_within c = larger_within c c c (λ q. omega arith) (λ q. omega arith)

lacking_base : (t : Track) (has : Counts) (lacks : Bool) → lacks ≡ true
    → AreCountsWithin (track_base (cond lacks (lacking_on t has) (heard_on t has))) has
lacking_base t has true e = twice_within has
lacking_base t has false e = absurd (false≢true e)

pub lacking : LackingIsBelieved
lacking links s lt =
    let l = link_of links s.from in
    let is = there links.of s.from (answered_link l s.progress s.over) lt in (
      λ e.
          subst (λ m. AreCountsWithin (track_base m.accepted) s.progress.accepted) (sym is)
          (lacking_base l.accepted s.progress.accepted (is_lacking l.accepted s.progress.accepted s.over.accepted) e),
      λ e.
          subst (λ m. AreCountsWithin (track_base m.view) s.progress.view) (sym is)
          (lacking_base l.view s.progress.view (is_lacking l.view s.progress.view s.over.view) e),
    )
