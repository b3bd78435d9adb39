-- What a copy of several lists has.
use Rattle.slotmap_lists.proofs.Common.{length, ◌∙◌, ℕ, List, sym, ap, subst, arith, Key, Content, Lists, list_of, home_of, lists_at, elements_of, AreListed, bound}
use Rattle.std.proofs.Common.{◌≡◌}
use Rattle.slotmap.proofs.Callers.{clone_live}
use Rattle.slotmap.specs.Words.{IsCloneBy, AreClones}
use Rattle.slotmap_list.proofs.Copies.{clones_by}
use Rattle.slotmap_lists.proofs.Listed.{as_many_lists, seen_list}
use Rattle.slotmap_lists.proofs.Opening.{listed_alike}

module _ {T : Type 0} (is_clone : T → T → Type 0) {c copy : Content T} {homes : List ℕ} {s : Lists} (kept : AreListed c homes s) (clones : IsCloneBy is_clone c copy) where
  pub listed_cloned : bound copy ≡ bound c → (now : List ℕ) → now ≡ homes → (t : Lists) → t.lists ≡ s.lists → t.members ≡ s.members → AreListed copy now t
  listed_cloned same now homes_same t lists members = listed_alike kept copy (clone_live is_clone c copy clones) now (λ i. ap (λ h. home_of h i) homes_same) t lists (omega arith)
      (omega (arith, kept.homes_long, ap length homes_same)) (omega (arith, kept.covered))

  pub each_cloned : (q : ℕ) → AreClones is_clone (elements_of q (lists_at c.live s)) (elements_of q (lists_at copy.live s))
  each_cloned q = subst (λ (x : List (Key × T) × List (Key × T)). AreClones is_clone x.0 x.1) (λ j. (sym (seen_list c.live s q) j, sym (seen_list copy.live s q) j))
      (clones_by is_clone clones (λ a b of_a of_b. (kept.indices q).apart a b (sym (clone_live is_clone c copy clones a) ∙ of_a) (sym (clone_live is_clone c copy clones b) ∙ of_b))
      (list_of s q) (kept.indices q))

  pub as_many_cloned : length (lists_at copy.live s) ≡ length (lists_at c.live s)
  as_many_cloned = as_many_lists copy.live s ∙ sym (as_many_lists c.live s)
