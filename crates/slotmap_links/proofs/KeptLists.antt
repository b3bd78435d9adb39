-- Lists of numbers in two vectors: how the user sees them, and what a change of links, ends, owners or members makes of them.
use Rattle.std.proofs.Common.{◌≡◌, ◌<◌, ◌≤◌, ◌∷◌, ◌++◌, length, get_or, ◌∙◌, ◌-◌, Result, if◌then◌else◌, map as list_map, replicate, length-append}
use Rattle.std.proofs.Common.{ℕ, List, [], set, sym, ap, arith, Ok, Err, OnOk, is_ok, max, take, zero, suc, refl, subst, inl, inr}
use Rattle.std.proofs.lemmas.Bool.{cases_lt}
use Rattle.std.proofs.lemmas.List.{length-map, length-set, get_or-set_same, get_or-set_other, ext_get_or, map-append, length-replicate, take_all, get_or-replicate}
use Rattle.std.proofs.Math.ListN.{get_or-map as read_map, get_or-eq_default, get_or-append}
use Rattle.std.proofs.Math.Seq.{get_or-append_right}
use Rattle.slotmap_links.specs.Lists.{times, list_of, with_list, AreDisjoint, Lists, cleared, with_capacity, with_owners, with_members}
use Rattle.slotmap_links.specs.Kept.{link_at, listed, lists_by, bounds, nobody, no_ends, AreKept, Relists, bounds_at, neighbours, no_link}
use Rattle.slotmap_links.specs.Linked.{ends_of, followed, AreApart}
use Rattle.slotmap_links.specs.declared.{Ends.Ends, Link.Link}
use Rattle.slotmap_links.proofs.{Counts.same_or_other, Counts.few_below, Linking.cons_not_nil, Linking.linked_along}

module _ (ends : List Ends) (links : List Link) where
  -- the list that the user sees
  pub seen_list : (capacity : ℕ × ℕ) (p : ℕ) → list_of (lists_by ends links capacity) p ≡ listed ends links p
  seen_list capacity p = read_map (λ e. followed (link_at links) (bounds e)) ends p no_ends

  pub seen_owners : (capacity : ℕ × ℕ) → length (lists_by ends links capacity).lists ≡ length ends
  seen_owners capacity = length-map ends (λ e. followed (link_at links) (bounds e))

  pub kept_disjoint : (capacity : ℕ × ℕ) → AreKept ends links → AreDisjoint (lists_by ends links capacity)
  kept_disjoint capacity kept = record {
    once = λ p k. omega (arith, kept.apart.once p k, ap (times k) (seen_list capacity p));
    alone = λ p q k in_p in_q. kept.apart.alone p q k (omega (arith, ap (times k) (seen_list capacity p))) (omega (arith, ap (times k) (seen_list capacity q)));
    within = λ p k more. kept.within p k (omega (arith, ap (times k) (seen_list capacity p)));
  }

  -- a list is no longer than there are members
  pub list_fits : AreKept ends links → (p : ℕ) → length (listed ends links p) ≤ length links
  list_fits kept p = few_below (length links) (listed ends links p) (kept.apart.once p) (kept.within p)

-- where all ends are those of a list with no members, there are none
module _ (ends : List Ends) (links : List Link) (few : length links ≤ nobody) (all : (p : ℕ) → get_or ends p no_ends ≡ no_ends) where
  none : (p : ℕ) → listed ends links p ≡ []
  none p = ap (λ (e : Ends). followed (link_at links) (bounds e)) (all p)

  nothing : (p : ℕ) (before : List ℕ) (k : ℕ) (after : List ℕ) → listed ends links p ≡ before ++ k ∷ after → ⊥
  nothing p before k after at = cons_not_nil before k after (sym (none p) ∙ at)

  pub kept_empty : AreKept ends links
  kept_empty = record {
    linked = record {
      ends_are = λ p. (ap bounds (all p) ∙ ap ends_of (sym (none p)));
      links_are = λ p before k after at. absurd (nothing p before k after at);
    };
    apart = record { once = λ p k. omega (arith, ap (times k) (none p)); alone = λ p q k more _. absurd (omega (arith, ap (times k) (none p))) };
    within = λ p k more. absurd (omega (arith, ap (times k) (none p)));
    few = few;
  }

-- no owner and no member
pub kept_none : AreKept [] []
kept_none = kept_empty [] [] (omega arith) (λ p. get_or-eq_default [] no_ends {n = p} (omega arith))

-- the user sees that one list changed
module _ (ends : List Ends) (links : List Link) (p : ℕ) (ks : List ℕ) (ends' : List Ends) (links' : List Link)
    (there : p < length ends) (relists : Relists ends links p ks ends' links') (capacity : ℕ × ℕ) where
  abbrev was : List (List ℕ)
  was = (lists_by ends links capacity).lists

  abbrev now : List (List ℕ)
  now = (lists_by ends' links' capacity).lists

  as_long : length now ≡ length (set was p ks)
  as_long = seen_owners ends' links' capacity ∙ relists.owners ∙ sym (seen_owners ends links capacity) ∙ sym (length-set was p ks)

  at_each : (q : ℕ) → get_or now q [] ≡ get_or (set was p ks) q []
  at_each q = grind (
    arith,
    same_or_other q p,
    seen_owners ends links capacity,
    seen_list ends' links' capacity q,
    seen_list ends links capacity q,
    relists.list,
    relists.others q,
    get_or-set_same was p ks [],
    get_or-set_other was p q ks [],
  )

  lists_are : now ≡ set was p ks
  lists_are = ext_get_or [] now (set was p ks) as_long (λ q _. at_each q)

  pub seen_relisted : lists_by ends' links' capacity ≡ with_list (lists_by ends links capacity) p ks
  seen_relisted = λ i. record { lists = lists_are i; members = relists.members i; capacity = capacity }

-- a list of defaults has the default everywhere, and changes no read of a list before it
read_default : {X : Type 0} (n q : ℕ) (d : X) → get_or (replicate n d) q d ≡ d
read_default n q d = elim (cases_lt q n) [
  | inl below ↦ get_or-replicate n q d d below
  | inr past ↦ get_or-eq_default (replicate n d) d {n = q} (omega (arith, length-replicate n d))
]

pub read_padded : {X : Type 0} (xs : List X) (n q : ℕ) (d : X) → get_or (xs ++ replicate n d) q d ≡ get_or xs q d
read_padded xs n q d = elim (cases_lt q (length xs)) [
  | inl below ↦ get_or-append xs (replicate n d) d q below
  | inr past ↦ get_or-append_right xs (replicate n d) q d past ∙ read_default n (q - length xs) d ∙ sym (get_or-eq_default xs d {n = q} past)
]

map_replicate : {X Y : Type 0} (f : X → Y) (n : ℕ) (x : X) → list_map f (replicate n x) ≡ replicate n (f x)
map_replicate f zero x = refl
map_replicate f (suc n) x = ap (λ l. f x ∷ l) (map_replicate f n x)

-- the same ends and the same links at each number
module _ (ends ends' : List Ends) (links links' : List Link) (same_ends : (q : ℕ) → bounds_at ends' q ≡ bounds_at ends q) (same_links : (q : ℕ) → link_at links' q ≡ link_at links q) where
  list_stays : (p : ℕ) → listed ends' links' p ≡ listed ends links p
  list_stays p = λ i. followed (λ q. same_links q i) (same_ends p i)

  kept_along : AreKept ends links → length links ≤ length links' → length links' ≤ nobody → AreKept ends' links'
  kept_along kept more few = record {
    linked = linked_along same_ends same_links kept.linked;
    apart = subst AreApart (λ i p. sym (list_stays p) i) kept.apart;
    within = λ p k inside. omega (arith, kept.within p k (omega (arith, ap (times k) (list_stays p))));
    few = few;
  }

module _ (ends : List Ends) (links : List Link) (kept : AreKept ends links) (n : ℕ) where
  abbrev more_ends : List Ends
  more_ends = ends ++ replicate (n - length ends) no_ends

  kept_owners : AreKept more_ends links
  kept_owners = kept_along ends more_ends links links (λ q. ap bounds (read_padded ends (n - length ends) q no_ends)) (λ q. refl) kept (omega arith) kept.few

  seen_owners_more : (capacity : ℕ × ℕ) → lists_by more_ends links capacity ≡ with_owners (lists_by ends links capacity) n
  seen_owners_more capacity = λ i. record {
    lists = (map-append (λ e. followed (link_at links) (bounds e)) ends (replicate (n - length ends) no_ends)
        ∙ ap (λ l. (lists_by ends links capacity).lists ++ l) (map_replicate (λ e. followed (link_at links) (bounds e)) (n - length ends) no_ends)
        ∙ ap (λ m. (lists_by ends links capacity).lists ++ replicate (n - m) []) (sym (seen_owners ends links capacity))) i;
    members = length links;
    capacity = capacity;
  }

  module _ (few : n ≤ nobody) where
    abbrev more_links : List Link
    more_links = links ++ replicate (n - length links) no_link

    long : length more_links ≡ max (length links) n
    long = omega (arith, length-append links (replicate (n - length links) no_link), length-replicate (n - length links) no_link)

    kept_members : AreKept ends more_links
    kept_members = kept_along ends ends links more_links (λ q. refl) (λ q. ap neighbours (read_padded links (n - length links) q no_link)) kept (omega (arith, long)) (omega (arith, long, kept.few))

    seen_members_more : (capacity : ℕ × ℕ) → lists_by ends more_links capacity ≡ with_members (lists_by ends links capacity) n
    seen_members_more capacity = λ i. record {
      lists = list_map (λ e. followed (λ q. neighbours (read_padded links (n - length links) q no_link i)) (bounds e)) ends;
      members = long i;
      capacity = capacity;
    }

-- what `resize` leaves of a list, where these hold of it with more elements
resized : {X A B : Type 0} (xs : List X) (n len : ℕ) (d : X) → len ≡ length xs → length xs ≤ n → (P Q : List X → Type 0) → P xs → P (xs ++ replicate (n - length xs) d)
    → Q (xs ++ replicate (n - length xs) d) → (r : Result A B) (now : List X) → now ≡ (if is_ok r then take n xs ++ replicate (n - len) d else xs) → P now × OnOk r (Q now)
resized xs n len d len_is more P Q same p q (Ok x) now is = let grown = is ∙ (λ i. take_all n xs more i ++ replicate (n - len_is i) d) in (subst P (sym grown) p, subst Q (sym grown) q)
resized xs n len d len_is more P Q same p q (Err e) now is = (subst P (sym is) same, tt)

module _ {ends : List Ends} {links : List Link} (kept : AreKept ends links) {had : ℕ × ℕ} {s : Lists}
    (seen : lists_by ends links had ≡ s) (n len : ℕ) {A B : Type 0} (capacity : ℕ × ℕ) where
  pub resized_owners : {mid : List Ends} → mid ≡ ends → len ≡ length ends → length ends ≤ n → (r : Result A B) (now : List Ends)
      → now ≡ (if is_ok r then take n mid ++ replicate (n - len) no_ends else mid) → AreKept now links × OnOk r (lists_by now links capacity ≡ with_capacity (with_owners s n) capacity)
  resized_owners same long more r now is =
      resized ends n len no_ends long more (λ l. AreKept l links) (λ l. lists_by l links capacity ≡ with_capacity (with_owners s n) capacity) kept (kept_owners ends links kept n)
      (seen_owners_more ends links kept n capacity ∙ ap (λ s. with_capacity (with_owners s n) capacity) seen) r now
      (is ∙ ap (λ m. if is_ok r then take n m ++ replicate (n - len) no_ends else m) same)

  pub resized_members : {mid : List Link} → mid ≡ links → len ≡ length links → length links ≤ n → n ≤ nobody → (r : Result A B) (now : List Link)
      → now ≡ (if is_ok r then take n mid ++ replicate (n - len) no_link else mid) → AreKept ends now × OnOk r (lists_by ends now capacity ≡ with_capacity (with_members s n) capacity)
  resized_members same long more few r now is =
      resized links n len no_link long more (λ l. AreKept ends l) (λ l. lists_by ends l capacity ≡ with_capacity (with_members s n) capacity) kept (kept_members ends links kept n few)
      (seen_members_more ends links kept n few capacity ∙ ap (λ s. with_capacity (with_members s n) capacity) seen) r now
      (is ∙ ap (λ m. if is_ok r then take n m ++ replicate (n - len) no_link else m) same)

-- all lists are emptied
module _ (ends : List Ends) (links : List Link) (kept : AreKept ends links) (now : List Ends) (n : ℕ) (is : now ≡ replicate n no_ends) where
  pub kept_cleared : AreKept now links
  kept_cleared = subst (λ l. AreKept l links) (sym is) (kept_empty (replicate n no_ends) links kept.few (λ p. read_default n p no_ends))

  pub seen_cleared : (s : Lists) (capacity : ℕ × ℕ) → lists_by ends links capacity ≡ s → n ≡ length ends → lists_by now links capacity ≡ cleared s
  seen_cleared s capacity seen long =
      ap (λ l. lists_by l links capacity) is
      ∙ (λ i. record { lists = map_replicate (λ e. followed (link_at links) (bounds e)) n no_ends i; members = length links; capacity = capacity })
      ∙ (λ i. record { lists = replicate ((long ∙ sym (seen_owners ends links capacity)) i) []; members = length links; capacity = capacity })
      ∙ ap cleared seen
