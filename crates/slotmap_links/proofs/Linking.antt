-- Lists that are kept as links: a walk along them, and what a number that is put in or taken out does to them. For the structures.
use Rattle.std.proofs.Common.{zero, take, nat_eq, ◌≡◌, ◌≢◌, ◌⊎◌, ◌+◌, ◌<◌, ◌≤◌, Option, Some, None, ◌∷◌, ◌++◌, length, ◌∙◌, subst, arith, append_assoc}
use Rattle.std.proofs.Common.{ℕ, suc, List, [], cond, not, refl, sym, ap, inl, inr}
use Rattle.std.proofs.Math.Seq.{take-length}
use Rattle.std.proofs.lemmas.Bool.Decides.{nat_tests}
use Rattle.std.proofs.lemmas.List.Elements.{filter-append}
use Rattle.std.proofs.lemmas.Option.{same_Some}
use Rattle.slotmap_links.specs.Linked.{Bounds, Neighbours, ends_of, link_between, follow, followed, AreLinked, AreApart, IsListed}
use Rattle.slotmap_links.specs.Lists.{times, first_or, last_or, number_after, number_before, without}
use Rattle.slotmap_links.specs.Splice.{with_link, with_next, with_prev}
use Rattle.slotmap_links.proofs.Counts.{same, same_or_other, is_itself, is_other, one_itself, one_other, times_first, times_joined, without_none}

pub first_or-append : (xs ys : List ℕ) (o : Option ℕ) → first_or (xs ++ ys) o ≡ first_or xs (first_or ys o)
first_or-append [] ys o = refl
first_or-append (x ∷ xs) ys o = refl

pub last_or-append : (xs ys : List ℕ) (o : Option ℕ) → last_or (xs ++ ys) o ≡ last_or ys (last_or xs o)
last_or-append [] ys o = refl
last_or-append (x ∷ xs) ys o = last_or-append xs ys (Some x)

pub last_behind : (xs ys : List ℕ) (z : ℕ) (zs : List ℕ) → last_or (xs ++ (ys ++ z ∷ zs)) None ≡ last_or zs (Some z)
last_behind xs ys z zs = last_or-append xs (ys ++ z ∷ zs) None ∙ last_or-append ys (z ∷ zs) (last_or xs None)

-- the first number of a list is in it, and the last one too
pub first_in : (ks : List ℕ) (f : ℕ) → first_or ks None ≡ Some f → 0 < times f ks
first_in [] f is = absurd (cc)
first_in (k ∷ ks) f is = grind (arith, nat_tests, times_first f k ks)

last_of : (k : ℕ) (ks : List ℕ) (l : ℕ) → last_or ks (Some k) ≡ Some l → 0 < times l (k ∷ ks)
last_of k [] l is = grind (arith, nat_tests, times_first l k [])
last_of k (q ∷ ks) l is = omega (arith, last_of q ks l is, times_first l k (q ∷ ks))

pub last_in : (ks : List ℕ) (l : ℕ) → last_or ks None ≡ Some l → 0 < times l ks
last_in [] l is = absurd (cc)
last_in (k ∷ ks) l is = last_of k ks l is

-- the number beside another one is in the list
pub after_inside : (k i : ℕ) (ks : List ℕ) → number_after k ks ≡ Some i → 0 < times i ks
after_inside k i [] is = absurd (cc)
after_inside k i (q ∷ ks) is = grind (arith, nat_tests, times_first i q ks, first_in ks i, after_inside k i ks)

before_within : (other : Option ℕ) (k i : ℕ) (ks : List ℕ) → number_before other k ks ≡ Some i → (other ≡ Some i → ⊥) → 0 < times i ks
before_within other k i [] is apart = absurd (cc)
before_within other k i (q ∷ ks) is apart = grind (arith, nat_tests, times_first i q ks, before_within (Some q) k i ks)

pub before_inside : (k i : ℕ) (ks : List ℕ) → number_before None k ks ≡ Some i → 0 < times i ks
before_inside k i ks is = before_within None k i ks is (λ e. (cc))

pub cons_not_nil : {A : Type 0} (b : List A) (x : A) (a : List A) → [] ≡ b ++ x ∷ a → ⊥
cons_not_nil [] x a at = absurd (cc)
cons_not_nil (q ∷ b) x a at = absurd (cc)

-- a number in the midst of a list is in it
pub in_midst : (before : List ℕ) (k : ℕ) (after : List ℕ) → times k (before ++ k ∷ after) ≡ 1 + (times k before + times k after)
in_midst before k after = omega (arith, times_joined k before (k ∷ after), times_first k k after, one_itself k)

-- where a list is cut, what stands in it is before the cut or after it
pub cut_at : {A : Type 0} (before after b : List A) (x : A) (a : List A) → before ++ after ≡ b ++ x ∷ a
    → ((m : List A) × (before ≡ b ++ x ∷ m) × (a ≡ m ++ after)) ⊎ ((m : List A) × (b ≡ before ++ m) × (after ≡ m ++ x ∷ a))
cut_at [] after b x a is = inr (b, refl, is)
cut_at (k ∷ before) after [] x a is = inl (before, (cc), (cc))
cut_at (k ∷ before) after (y ∷ b) x a is = elim (cut_at before after b x a (cc)) [
  | inl there ↦ inl (there.0, (let h = there.1 in cc), there.2)
  | inr there ↦ inr (there.0, (let h = there.1 in cc), there.2)
]

-- a number that is in a list stands between two parts of it
pub split_at : (k : ℕ) (ks : List ℕ) → 0 < times k ks → (before : List ℕ) × (after : List ℕ) × (ks ≡ before ++ k ∷ after)
split_at k [] more = absurd (omega arith)
split_at k (q ∷ ks) more = elim (same_or_other q k) [
  | inl here ↦ ([], ks, ap (λ x. x ∷ ks) here)
  | inr other ↦ (let later = split_at k ks (omega (arith, times_first k q ks, one_other q k other)) in (q ∷ later.0, later.1, ap (λ l. q ∷ l) later.2))
]

-- without a number that is in it once, a list is these two parts
pub without_split : (k : ℕ) (before after : List ℕ) → times k (before ++ k ∷ after) ≤ 1 → without k (before ++ k ∷ after) ≡ before ++ after
without_split k before after once = let sum = in_midst before k after in
    let gone : without k (k ∷ after) ≡ without k after = ap (λ b. cond (not b) (k ∷ without k after) (without k after)) (is_itself k) in
    filter-append (λ q. not (nat_eq q k)) before (k ∷ after) ∙ ap (λ l. without k before ++ l) gone ∙ ap (λ l. l ++ without k after) (without_none k before (omega arith))
    ∙ ap (λ l. before ++ l) (without_none k after (omega arith))

-- links of which one was changed
module _ (change : Neighbours → Neighbours) (link : ℕ → Neighbours) (q : ℕ) where
  changed_here : with_link (Some q) change link q ≡ change (link q)
  changed_here = ap (λ b. cond b (change (link q)) (link q)) (is_itself q)

  changed_elsewhere : (at : Option ℕ) → at ≢ Some q → with_link at change link q ≡ link q
  changed_elsewhere None other = refl
  changed_elsewhere (Some k) other = ap (λ b. cond b (change (link q)) (link q)) (is_other q k (λ e. other (ap Some (sym e))))

-- from a place in a list, so many links lead to so many of the numbers behind it
pub follow_is : (link : ℕ → Neighbours) (n : ℕ) (before rest : List ℕ) → ((b : List ℕ) (k : ℕ) (a : List ℕ) → before ++ rest ≡ b ++ k ∷ a → link k ≡ link_between b a)
    → follow link n (first_or rest None) ≡ take n rest
follow_is link zero before rest links = refl
follow_is link (suc n) before [] links = refl
follow_is link (suc n) before (k ∷ rest) links = ap (λ (l : Neighbours). k ∷ follow link n l.next) (links before k rest refl)
    ∙ ap (λ l. k ∷ l) (follow_is link n (before ++ k ∷ []) rest (λ b x a is. links b x a (sym (append_assoc before (k ∷ []) rest) ∙ is)))

-- lists that are kept as links
module _ {ends : ℕ → Bounds} {link : ℕ → Neighbours} {lists : ℕ → List ℕ} (linked : AreLinked ends link lists) where
  -- from the ends of a list, the links lead to all of it
  pub followed_is : (p : ℕ) → followed link (ends p) ≡ lists p
  followed_is p = ap (followed link) (linked.ends_are p) ∙ follow_is link (length (lists p)) [] (lists p) (linked.links_are p) ∙ take-length (lists p)

  -- In the list of p the numbers between `before` and `after` are those of `now`. The number k is the only one of them whose link changed
  module _ (apart : AreApart lists) (p k : ℕ) (before mid now after : List ℕ) (is : lists p ≡ before ++ (mid ++ after))
      (not_before : times k before ≡ 0) (not_after : times k after ≡ 0) (nowhere : (q : ℕ) → q ≢ p → times k (lists q) ≡ 0)
      (link_mid link' : ℕ → Neighbours) (but : (q : ℕ) → q ≢ k → link_mid q ≡ link q)
      (own : (b : List ℕ) (x : ℕ) (a : List ℕ) → now ≡ b ++ x ∷ a → (x ≡ k) × (link_mid k ≡ link_between (before ++ b) (a ++ after)))
      (written : (q : ℕ) → link' q ≡ with_prev (first_or after None) (last_or now (last_or before None))
      (with_next (last_or before None) (first_or now (first_or after None)) link_mid) q) where
    -- a number of the list is in no other one, and at one place
    in_no_other : (q x : ℕ) → q ≢ p → 0 < times x (lists q) → times x (lists p) ≡ 0
    in_no_other q x other more = grind (arith, apart.alone q p x more, other)

    is_counted : (x : ℕ) → times x (lists p) ≡ times x before + (times x mid + times x after)
    is_counted x = ap (times x) is ∙ times_joined x before (mid ++ after) ∙ ap (λ n. times x before + n) (times_joined x mid after)

    not_last : (x : ℕ) → times x before ≡ 0 → last_or before None ≢ Some x
    not_last x none last = absurd (omega (arith, last_in before x last))

    not_first : (x : ℕ) → times x after ≡ 0 → first_or after None ≢ Some x
    not_first x none first = absurd (omega (arith, first_in after x first))

    -- no number stands on both sides
    not_both : (x : ℕ) → last_or before None ≡ Some x → first_or after None ≢ Some x
    not_both x last first = absurd (omega (arith, last_in before x last, first_in after x first, is_counted x, apart.once p x))

    -- the links that the two beside the place have now, and all others
    abbrev to_next : Neighbours → Neighbours
    to_next n = record n { next = first_or now (first_or after None) }

    abbrev to_prev : Neighbours → Neighbours
    to_prev n = record n { prev = last_or now (last_or before None) }

    abbrev half : ℕ → Neighbours
    half = with_link (last_or before None) to_next link_mid

    link_same : (x : ℕ) → last_or before None ≢ Some x → first_or after None ≢ Some x → link' x ≡ link_mid x
    link_same x no_last no_first = written x ∙ changed_elsewhere to_prev half x (first_or after None) no_first ∙ changed_elsewhere to_next link_mid x (last_or before None) no_last

    link_last : (x : ℕ) → last_or before None ≡ Some x → link' x ≡ to_next (link x)
    link_last x last = written x ∙ changed_elsewhere to_prev half x (first_or after None) (not_both x last) ∙ ap (λ o. with_link o to_next link_mid x) last
        ∙ changed_here to_next link_mid x ∙ ap to_next (but x (λ e. not_last k not_before (last ∙ ap Some e)))

    link_first : (x : ℕ) → first_or after None ≡ Some x → link' x ≡ to_prev (link x)
    link_first x first = written x ∙ ap (λ o. with_link o to_prev half x) first ∙ changed_here to_prev half x
        ∙ ap to_prev (changed_elsewhere to_next link_mid x (last_or before None) (λ last. not_both x last first) ∙ but x (λ e. not_first k not_after (first ∙ ap Some e)))

    link_before : (b : List ℕ) (x : ℕ) (m : List ℕ) → before ≡ b ++ x ∷ m → link' x ≡ link_between b (m ++ (now ++ after))
    link_before b x [] at =
        link_last x (ap (λ l. last_or l None) at ∙ last_or-append b (x ∷ []) None)
        ∙ ap to_next
        (linked.links_are p b x (mid ++ after) (is ∙ ap (λ l. l ++ (mid ++ after)) at ∙ append_assoc b (x ∷ []) (mid ++ after)))
        ∙ ap (λ n. record { prev = last_or b None; next = n }) (sym (first_or-append now after None))
    link_before b x (y ∷ m) at = let sum = is_counted x in let once = apart.once p x in let there = ap (times x) at ∙ in_midst b x (y ∷ m) in let no_k : x ≢ k =
        λ e. (omega (arith, rw (← e) at not_before)) in let no_last : last_or before None ≢ Some x =
        λ last. (omega (arith, last_of y m x (sym (last_or-append b (x ∷ y ∷ m) None) ∙ sym (ap (λ l. last_or l None) at) ∙ last))) in
        link_same x no_last (not_first x (omega arith)) ∙ but x no_k
        ∙ linked.links_are p b x ((y ∷ m) ++ (mid ++ after)) (is ∙ ap (λ l. l ++ (mid ++ after)) at ∙ append_assoc b (x ∷ y ∷ m) (mid ++ after))

    link_after : (m : List ℕ) (x : ℕ) (a : List ℕ) → after ≡ m ++ x ∷ a → link' x ≡ link_between (before ++ (now ++ m)) a
    link_after [] x a at =
        link_first x (ap (λ l. first_or l None) at)
        ∙ ap to_prev
        (linked.links_are p (before ++ mid) x a (is ∙ ap (λ l. before ++ (mid ++ l)) at ∙ sym (append_assoc before mid (x ∷ a))))
        ∙ ap (λ l. record { prev = l; next = first_or a None }) (sym (last_or-append before (now ++ []) None ∙ last_or-append now [] (last_or before None)))
    link_after (y ∷ m) x a at =
        let sum = is_counted x in
        let once = apart.once p x in
        let there = ap (times x) at ∙ in_midst (y ∷ m) x a in
        let no_k : x ≢ k = λ e. (omega (arith, rw (← e) at not_after)) in
        let no_first : first_or after None ≢ Some x = λ first.
        (let again = same_Some y x (sym (ap (λ l. first_or l None) at) ∙ first) in omega (arith, ap (λ q. same q x) again ∙ one_itself x, times_first x y m)) in
        let whole = is ∙ ap (λ l. before ++ (mid ++ l)) at ∙ ap (λ l. before ++ l) (sym (append_assoc mid (y ∷ m) (x ∷ a))) ∙ sym (append_assoc before (mid ++ y ∷ m) (x ∷ a)) in
        link_same x (not_last x (omega arith)) no_first ∙ but x no_k
        ∙ linked.links_are p (before ++ (mid ++ y ∷ m)) x a whole
        ∙ ap (λ l. record { prev = l; next = first_or a None }) (last_behind before mid y m ∙ sym (last_behind before now y m))

    link_here : (b : List ℕ) (x : ℕ) (a : List ℕ) → before ++ (now ++ after) ≡ b ++ x ∷ a → link' x ≡ link_between b a
    link_here b x a at = elim (cut_at before (now ++ after) b x a at) [
      | inl there ↦ link_before b x there.0 there.1 ∙ ap (link_between b) (sym there.2)
      | inr there ↦ elim (cut_at now after there.0 x a there.2) [
        | inl inner ↦ (let at_k = own there.0 x inner.0 inner.1 in ap link' at_k.0 ∙ link_same k (not_last k not_before) (not_first k not_after) ∙ at_k.1
            ∙ ap (λ l. link_between l (inner.0 ++ after)) (sym there.1) ∙ ap (link_between b) (sym inner.2))
        | inr inner ↦ link_after inner.0 x a inner.2 ∙ ap (λ l. link_between l a) (ap (λ l. before ++ l) (sym inner.1) ∙ sym there.1)
      ]
    ]

    link_elsewhere : (q : ℕ) → q ≢ p → (b : List ℕ) (x : ℕ) (a : List ℕ) → lists q ≡ b ++ x ∷ a → link' x ≡ link_between b a
    link_elsewhere q other b x a at = let there = ap (times x) at ∙ in_midst b x a in let none = in_no_other q x other (omega arith) in let sum = is_counted x in let no_k : x ≢ k =
        λ e. (omega (arith, rw (← e) at (nowhere q other))) in link_same x (not_last x (omega arith)) (not_first x (omega arith)) ∙ but x no_k ∙ linked.links_are q b x a at

    pub linked_now : {ends' : ℕ → Bounds} {lists' : ℕ → List ℕ} → IsListed lists lists' ends ends' p (before ++ (now ++ after)) → AreLinked ends' link' lists'
    linked_now {ends'} {lists'} listed = record {
      ends_are = λ q. (elim (same_or_other q p) [
        | inl same ↦ rw same (listed.ends ∙ ap ends_of (sym listed.list))
        | inr other ↦ listed.other_ends q other ∙ linked.ends_are q ∙ ap ends_of (sym (listed.others q other))
      ]);
      links_are = λ q b x a at. (elim (same_or_other q p) [
        | inl same ↦ link_here b x a (sym listed.list ∙ ap lists' (sym same) ∙ at)
        | inr other ↦ link_elsewhere q other b x a (sym (listed.others q other) ∙ at)
      ]);
    }

-- lists that are kept as links are those that the links lead to
pub linked_self : {ends : ℕ → Bounds} {link : ℕ → Neighbours} {lists : ℕ → List ℕ} → AreLinked ends link lists → AreLinked ends link (λ p. followed link (ends p))
linked_self linked = record {
  ends_are = λ p. linked.ends_are p ∙ ap ends_of (sym (followed_is linked p));
  links_are = λ p before k after is. linked.links_are p before k after (sym (followed_is linked p) ∙ is);
}

-- the same ends and the same links
module _ {ends ends' : ℕ → Bounds} {link link' : ℕ → Neighbours} (same_ends : (q : ℕ) → ends' q ≡ ends q) (same_links : (q : ℕ) → link' q ≡ link q) where
  pub linked_along : AreLinked ends link (λ p. followed link (ends p)) → AreLinked ends' link' (λ p. followed link' (ends' p))
  linked_along = subst (λ (x : (ℕ → Bounds) × (ℕ → Neighbours)). AreLinked x.0 x.1 (λ p. followed x.1 (x.0 p))) (λ i. ((λ q. sym (same_ends q) i), (λ q. sym (same_links q) i)))
