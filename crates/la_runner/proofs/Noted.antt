-- What a log holds that has a note of each peer.
use Rattle.std.proofs.Common.{◌≡◌, inl, inr, ℕ, ◌+◌, List, map, length, Some, ap₂, sym, ◌∙◌, subst, option_map}
use Rattle.std.specs.List.{AllZip, slice_get, slice_index_or}
use Rattle.std.proofs.lemmas.Option.{slice_get_within, get_or_from_slice_get}
use Rattle.la_set.specs.Histories.{Histories, empty}
use Rattle.la_set.specs.Inclusion.{IsSubset}
use Rattle.la_set.proofs.lemmas.Theorems.{subset-refl, subset-trans, subset-antisym}
use Rattle.la_object.specs.Objects.{value}
use Rattle.la_object.specs.Shelves.{updates_at}
use Rattle.la_runner.specs.Members.{member_view}
use Rattle.la_runner.specs.Runs.{Place, Back, IsBackOf, ViewsHold}
use Rattle.la_runner.specs.Together.{NamesSet, NotesHold, NotesAgree}
use Rattle.la_runner.proofs.Counting.{map_map}
use Rattle.la_runner.proofs.Keeping.{get_map, long_map}
use Rattle.la_runner.proofs.Sharing.{zip_at}

-- views counted by what the logs are
pub views_of : {X : Type 0} (f : X → Back) (notes : List ℕ) (xs : List X)
    → ViewsHold notes (map (λ x. member_view (f x).member) xs) → ViewsHold notes (map (λ (b : Back). member_view b.member) (map f xs))
views_of f notes xs h = subst (ViewsHold notes) (sym (map_map f (λ (b : Back). member_view b.member) xs)) h

named_within : (p : Place) (b : Back) (s : Histories) → IsBackOf p b → NamesSet b s → IsSubset s (member_view b.member)
named_within p b s h (inl e) = subst (λ z. IsSubset z (member_view b.member)) (sym e) (subset-refl (member_view b.member))
named_within p b s h (inr at) = h.done.within at.0 at.1 s at.2 at.3

module _ (ps : List Place) (bs : List Back) (h : AllZip IsBackOf ps bs) (notes : List ℕ)
    (holds : ViewsHold notes (map (λ (b : Back). member_view b.member) bs)) where
  abbrev views : List Histories
  views = map (λ (b : Back). member_view b.member) bs

  view_there : (i : ℕ) (b : Back) → slice_get bs i ≡ Some b → slice_get views i ≡ Some (member_view b.member)
  view_there i b e = get_map (λ (x : Back). member_view x.member) bs i b e

  view_at : (i : ℕ) (b : Back) → slice_get bs i ≡ Some b → slice_index_or views i empty ≡ member_view b.member
  view_at i b e = get_or_from_slice_get views i (member_view b.member) empty (view_there i b e)

  view_within : (at n to : ℕ) (b c : Back) → slice_get notes at ≡ Some n → n + 1 ≡ length bs → slice_get bs at ≡ Some b
      → slice_get bs to ≡ Some c → IsSubset (member_view c.member) (member_view b.member)
  view_within at n to b c noted whole at_b at_c =
      let all = holds at n noted (whole ∙ sym (long_map (λ (x : Back). member_view x.member) bs)) in
      let lt = slice_get_within views to (member_view c.member) (view_there to c at_c) in
      subst (λ (z : Histories × Histories). IsSubset z.0 z.1) (λ i. (view_at to c at_c i, view_at at b at_b i))
      (all to empty lt)

  pub notes_hold : NotesHold notes bs
  notes_hold at n b noted whole at_b to c s at_c of =
      let p = zip_at ps bs to c h at_c in
      subset-trans s (member_view c.member) (member_view b.member) (named_within p.0 c s p.2 of)
      (view_within at n to b c noted whole at_b at_c)

  pub notes_agree : NotesAgree notes bs
  notes_agree i j n m b c noted noted' whole whole' at_b at_c =
      let same =
      subset-antisym (member_view b.member) (member_view c.member) (view_within j m i c b noted' whole' at_c at_b)
      (view_within i n j b c noted whole at_b at_c) in
      let p = zip_at ps bs i b h at_b in
      let q = zip_at ps bs j c h at_c in (
        same,
        λ none none' object query kinds.
            ap₂ (λ v k. option_map (λ kind. value kind (updates_at v object) query) k)
            (p.2.shown none ∙ same ∙ sym (q.2.shown none')) kinds,
      )
