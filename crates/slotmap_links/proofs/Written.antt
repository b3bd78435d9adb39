-- What the two functions that change links write: one list is another one now, and what holds of all of them then.
use Rattle.std.proofs.Common.{◌≡◌, ◌≢◌, ◌<◌, ◌≤◌, Option, Some, ◌∷◌, ◌++◌, length, ◌∙◌, ◌+◌, ◌-◌, IfSome, nat_eq, append_assoc, append-nil, length-append}
use Rattle.std.proofs.Common.{ℕ, None, List, [], refl, sym, ap, inl, inr, arith, cond, get_or, set}
use Rattle.std.proofs.Math.Nat.{eq-zero-or-pos}
use Rattle.std.proofs.lemmas.Bool.Decides.{nat_tests}
use Rattle.std.proofs.lemmas.List.{length-set, get_or-set_same, get_or-set_other, get_or_default}
use Rattle.slotmap_links.specs.Linked.{Bounds, ends_of, AreApart, Neighbours, link_between, AreLinked}
use Rattle.slotmap_links.specs.Kept.{bounds_at, link_at, listed, bounds, neighbours, nobody, unless_nobody, no_ends, no_link, AreKept, Relists, IsGap}
use Rattle.slotmap_links.specs.Lists.{times, first_or, last_or, without}
use Rattle.slotmap_links.specs.Splice.{own, with_next, with_prev}
use Rattle.slotmap_links.specs.declared.{Ends.Ends, Link.Link}
use Rattle.slotmap_links.proofs.Counts.{same_or_other, is_itself, is_other, one_itself, one_other, times_first, times_joined, few_below}
use Rattle.slotmap_links.proofs.Linking.{first_or-append, last_or-append, last_behind, cons_not_nil, first_in, followed_is, in_midst, last_in, linked_now, linked_self, split_at, without_split}

-- the list of p is ks, in which no number but k is more often than before
module _ (lists : ℕ → List ℕ) (apart : AreApart lists) (p k : ℕ) (ks : List ℕ) (fewer : (x : ℕ) → x ≢ k → times x ks ≤ times x (lists p)) (one : times k ks ≤ 1)
    (elsewhere : (q : ℕ) → q ≢ p → times k (lists q) ≡ 0) (lists' : ℕ → List ℕ) (here : lists' p ≡ ks) (others : (q : ℕ) → q ≢ p → lists' q ≡ lists q) where
  -- another number is in no list more often than before, and k is in no list but that of p
  no_more : (q x : ℕ) → x ≢ k → times x (lists' q) ≤ times x (lists q)
  no_more q x other = grind (arith, same_or_other q p, here, others q, fewer x other)

  here_alone : (q : ℕ) → (times k (lists' q) ≤ 1) × (0 < times k (lists' q) → q ≡ p)
  here_alone q = grind (arith, same_or_other q p, here, one, others q, elsewhere q)

  pub apart_now : AreApart lists'
  apart_now = record {
    once = λ q x. (elim (same_or_other x k) [ inl is ↦ rw is ((here_alone q).0) | inr other ↦ omega (arith, no_more q x other, apart.once q x) ]);
    alone = λ q r x in_q in_r. (elim (same_or_other x k) [
      | inl is ↦ (here_alone q).1 (rw is at in_q) ∙ sym ((here_alone r).1 (rw is at in_r))
      | inr other ↦ apart.alone q r x (omega (arith, no_more q x other)) (omega (arith, no_more r x other))
    ]);
  }

  pub within_now : (n : ℕ) → k < n → ((q x : ℕ) → 0 < times x (lists q) → x < n) → (q x : ℕ) → 0 < times x (lists' q) → x < n
  within_now n below within q x more = elim (same_or_other x k) [ inl is ↦ omega arith | inr other ↦ within q x (omega (arith, no_more q x other)) ]

last_some : (x : ℕ) (xs : List ℕ) (a b : Option ℕ) → own (last_or xs (Some x)) a b ≡ a
last_some x [] a b = refl
last_some x (y ∷ xs) a b = last_some y xs a b

-- the ends of a list with other numbers at a place of it
pub ends_spliced : (before mid now after : List ℕ) (e : Bounds) → e ≡ ends_of (before ++ (mid ++ after)) → (n : ℕ) → n ≡ length (before ++ (now ++ after))
    → record { first = own (last_or before None) e.first (first_or now (first_or after None)); last = own (first_or after None) e.last (last_or now (last_or before None)); len = n }
    ≡ ends_of (before ++ (now ++ after))
ends_spliced before mid now after e is n long = λ i. record { first = firsts before (ap (λ (e : Bounds). e.first) is) i; last = lasts after (ap (λ (e : Bounds). e.last) is) i; len = long i }
  where
    firsts : (before : List ℕ) → e.first ≡ first_or (before ++ (mid ++ after)) None
        → own (last_or before None) e.first (first_or now (first_or after None)) ≡ first_or (before ++ (now ++ after)) None
    firsts [] is = sym (first_or-append now after None)
    firsts (x ∷ before) is = last_some x before e.first (first_or now (first_or after None)) ∙ is

    lasts : (after : List ℕ) → e.last ≡ last_or (before ++ (mid ++ after)) None
        → own (first_or after None) e.last (last_or now (last_or before None)) ≡ last_or (before ++ (now ++ after)) None
    lasts [] is = sym (last_or-append before (now ++ []) None ∙ last_or-append now [] (last_or before None))
    lasts (y ∷ after) is = is ∙ last_behind before mid y after ∙ sym (last_behind before now y after)

-- what holds of each number that an option has
if_some : (o : Option ℕ) (P : ℕ → Type 0) → ((k : ℕ) → o ≡ Some k → P k) → IfSome o P
if_some None P all = tt
if_some (Some k) P all = all k refl

pub somebody : (k : ℕ) → k < nobody → unless_nobody k ≡ Some k
somebody k below = ap (λ b. cond b None (Some k)) (is_other k nobody (omega arith))

-- the ends of an owner's list, once both may be written
module _ (e mid end : ℕ → Bounds) (p : ℕ) (prev on next back : Option ℕ) (one : (q : ℕ) → mid q ≡ cond (nat_eq q p) (record (e q) { first = own prev (e q).first on }) (e q))
    (two : (q : ℕ) → end q ≡ cond (nat_eq q p) (record (mid q) { last = own next (mid q).last back }) (mid q)) where
  end_here : end p ≡ record { first = own prev (e p).first on; last = own next (e p).last back; len = (e p).len }
  end_here = rw (two p, one p, is_itself p)

  end_there : (q : ℕ) → q ≢ p → end q ≡ e q
  end_there q other = rw (two q, one q, is_other q p other)

-- The owner p and a number k in no other list. For each of the two beside a place its link is written, or an end of the list of p, and then the list's length
module _ (ends : List Ends) (links : List Link) (kept : AreKept ends links) (p : ℕ) (owner : p < length ends) (prev on next back : Option ℕ) (mid_ends new_ends : List Ends)
    (owners : length new_ends ≡ length ends)
    (ends_one : (q : ℕ) → bounds_at mid_ends q ≡ cond (nat_eq q p) (record (bounds_at ends q) { first = own prev (bounds_at ends q).first on }) (bounds_at ends q))
    (ends_two : (q : ℕ) → bounds_at new_ends q ≡ cond (nat_eq q p) (record (bounds_at mid_ends q) { last = own next (bounds_at mid_ends q).last back }) (bounds_at mid_ends q)) (d : Ends) where
  abbrev old : Ends
  old = get_or new_ends p d

  old_is : bounds old ≡ record { first = own prev (bounds_at ends p).first on; last = own next (bounds_at ends p).last back; len = (bounds_at ends p).len }
  old_is = ap bounds (get_or_default new_ends p d no_ends (omega arith)) ∙ end_here (bounds_at ends) (bounds_at mid_ends) (bounds_at new_ends) p prev on next back ends_one ends_two

  long : old.len ≡ length (listed ends links p)
  long = ap (λ (b : Bounds). b.len) old_is ∙ ap (λ (b : Bounds). b.len) (kept.linked.ends_are p)

  module _ (n : ℕ) where
    abbrev sized : List Ends
    sized = set new_ends p (record { first = old.first; last = old.last; len = n })

    sized_here : bounds_at sized p ≡ record { first = own prev (bounds_at ends p).first on; last = own next (bounds_at ends p).last back; len = n }
    sized_here = ap bounds (get_or-set_same new_ends p _ no_ends (omega arith)) ∙ ap (λ (b : Bounds). record b { len = n }) old_is

    sized_there : (q : ℕ) → q ≢ p → bounds_at sized q ≡ bounds_at ends q
    sized_there q other = ap bounds (get_or-set_other new_ends p q _ no_ends other)
        ∙ end_there (bounds_at ends) (bounds_at mid_ends) (bounds_at new_ends) p prev on next back ends_one ends_two q other

    module _ (k : ℕ) (below : k < length links) (before mid now after : List ℕ) (is : listed ends links p ≡ before ++ (mid ++ after)) (sizes : n ≡ length (before ++ (now ++ after)))
        (prev_is : prev ≡ last_or before None) (on_is : on ≡ first_or now (first_or after None)) (next_is : next ≡ first_or after None) (back_is : back ≡ last_or now (last_or before None))
        (not_before : times k before ≡ 0) (not_after : times k after ≡ 0) (elsewhere : (q : ℕ) → q ≢ p → times k (listed ends links q) ≡ 0)
        (only : (x : ℕ) → x ≢ k → times x now ≡ 0) (one : times k now ≤ 1)
        (set_links mid_links new_links : List Link) (members : length new_links ≡ length links) (but : (q : ℕ) → q ≢ k → link_at set_links q ≡ link_at links q)
        (at_k : (b : List ℕ) (x : ℕ) (a : List ℕ) → now ≡ b ++ x ∷ a → (x ≡ k) × (link_at set_links k ≡ link_between (before ++ b) (a ++ after)))
        (links_one : (q : ℕ) → link_at mid_links q ≡ with_next prev on (link_at set_links) q)
        (links_two : (q : ℕ) → link_at new_links q ≡ with_prev next back (link_at mid_links) q) where
      abbrev ks : List ℕ
      ks = before ++ (now ++ after)

      abbrev lists_now : ℕ → List ℕ
      lists_now q = cond (nat_eq q p) ks (listed ends links q)

      now_here : lists_now p ≡ ks
      now_here = ap (λ b. cond b ks (listed ends links p)) (is_itself p)

      now_there : (q : ℕ) → q ≢ p → lists_now q ≡ listed ends links q
      now_there q other = ap (λ b. cond b ks (listed ends links q)) (is_other q p other)

      written : (q : ℕ) → link_at new_links q ≡ with_prev (first_or after None) (last_or now (last_or before None))
          (with_next (last_or before None) (first_or now (first_or after None)) (link_at set_links)) q
      written q = links_two q ∙ (λ i. with_prev (next_is i) (back_is i) (λ x. (links_one x ∙ (λ j. with_next (prev_is j) (on_is j) (link_at set_links) x)) i) q)

      now_linked : AreLinked (bounds_at sized) (link_at new_links) lists_now
      now_linked = linked_now kept.linked kept.apart p k before mid now after is not_before not_after elsewhere (link_at set_links) (link_at new_links) but at_k written (record {
        list = now_here;
        ends = sized_here ∙ (λ i. record { first = own (prev_is i) (bounds_at ends p).first (on_is i); last = own (next_is i) (bounds_at ends p).last (back_is i); len = n })
            ∙ ends_spliced before mid now after (bounds_at ends p) (kept.linked.ends_are p ∙ ap ends_of is) n sizes;
        others = now_there;
        other_ends = sized_there;
      })

      fewer : (x : ℕ) → x ≢ k → times x ks ≤ times x (listed ends links p)
      fewer x other = omega (arith, only x other, times_joined x before (now ++ after), times_joined x now after, ap (times x) is ∙ times_joined x before (mid ++ after), times_joined x mid after)

      one_now : times k ks ≤ 1
      one_now = omega (arith, times_joined k before (now ++ after), times_joined k now after)

      relists : Relists ends links p ks sized new_links
      relists =
          let is_now : (q : ℕ) → listed sized new_links q ≡ lists_now q = followed_is now_linked in
          let there_now : (q : ℕ) → q ≢ p → listed sized new_links q ≡ listed ends links q = λ q other. is_now q ∙ now_there q other in
          record {
            kept = record {
              linked = linked_self now_linked;
              apart = apart_now (listed ends links) kept.apart p k ks fewer one_now elsewhere (listed sized new_links) (is_now p ∙ now_here) there_now;
              within = λ q x more. (let h = within_now (listed ends links) kept.apart p k ks fewer one_now elsewhere (listed sized new_links) (is_now p ∙ now_here)
                  there_now (length links) below kept.within q x more in omega arith);
              few = omega (arith, kept.few);
            };
            list = is_now p ∙ now_here;
            others = there_now;
            owners = length-set new_ends p _ ∙ owners;
            members = members;
          }

module _ (ends : List Ends) (links : List Link) (kept : AreKept ends links) (p : ℕ) (owner : p < length ends) where
  abbrev list : List ℕ
  list = listed ends links p

  -- the two beside a place are members
  module _ (prev next : Option ℕ) (place : IsGap list prev next) where
    pub prev_below : IfSome prev (λ k. k < length links)
    prev_below = if_some prev _ (λ l is. kept.within p l (omega (arith, last_in place.before l (sym place.prev_is ∙ is), ap (times l) place.is ∙ times_joined l place.before place.after)))

    pub next_below : IfSome next (λ k. k < length links)
    next_below = if_some next _ (λ f is. kept.within p f (omega (arith, first_in place.after f (sym place.next_is ∙ is), ap (times f) place.is ∙ times_joined f place.before place.after)))

  -- k is put between two others
  module _ (k : ℕ) (below : k < length links) (nowhere : (q : ℕ) → times k (listed ends links q) ≡ 0) (link : Link) (mid_ends new_ends : List Ends)
      (owners : length new_ends ≡ length ends)
      (ends_one : (q : ℕ) → bounds_at mid_ends q ≡ cond (nat_eq q p)
      (record (bounds_at ends q) { first = own (unless_nobody link.prev) (bounds_at ends q).first (unless_nobody k) }) (bounds_at ends q))
      (ends_two : (q : ℕ) → bounds_at new_ends q ≡ cond (nat_eq q p)
      (record (bounds_at mid_ends q) { last = own (unless_nobody link.next) (bounds_at mid_ends q).last (unless_nobody k) }) (bounds_at mid_ends q)) (d : Ends) where
    was_long : (get_or new_ends p d).len ≡ length list
    was_long = long ends links kept p owner (unless_nobody link.prev) (unless_nobody k) (unless_nobody link.next) (unless_nobody k) mid_ends new_ends owners ends_one ends_two d

    -- with k there are no more than members
    pub put_fits : (get_or new_ends p d).len + 1 ≤ nobody
    put_fits = let few = few_below (length links) (k ∷ list) (λ x. grind (arith, nat_tests, times_first x k list, kept.apart.once p x, nowhere p))
        (λ x more. grind (arith, nat_tests, times_first x k list, kept.within p x)) in omega (arith, kept.few, was_long)

    pub put_written : (mid_links new_links : List Link) (members : length new_links ≡ length links)
        → ((q : ℕ) → link_at mid_links q ≡ with_next (unless_nobody link.prev) (unless_nobody k) (link_at (set links k link)) q)
        → ((q : ℕ) → link_at new_links q ≡ with_prev (unless_nobody link.next) (unless_nobody k) (link_at mid_links) q)
        → (place : IsGap list (unless_nobody link.prev) (unless_nobody link.next))
        → Relists ends links p (place.before ++ k ∷ place.after)
        (set new_ends p (record { first = (get_or new_ends p d).first; last = (get_or new_ends p d).last; len = (get_or new_ends p d).len + 1 })) new_links
    put_written mid_links new_links members links_one links_two place =
        let k_is = somebody k (omega (arith, kept.few)) in
        let none = sym (ap (times k) place.is ∙ times_joined k place.before place.after) ∙ nowhere p in
        relists ends links kept p owner (unless_nobody link.prev) (unless_nobody k) (unless_nobody link.next) (unless_nobody k) mid_ends new_ends
        owners ends_one ends_two d ((get_or new_ends p d).len + 1) k below place.before [] (k ∷ []) place.after place.is
        (omega (arith, was_long, ap length place.is ∙ length-append place.before place.after, length-append place.before (k ∷ place.after)))
        place.prev_is k_is place.next_is k_is (omega arith) (omega arith) (λ q _. nowhere q)
        (λ x other. omega (arith, times_first x k [], one_other k x (λ e. other (sym e)))) (omega (arith, times_first k k [], one_itself k))
        (set links k link) mid_links new_links members (λ q other. ap neighbours (get_or-set_other links k q link no_link other)) at_k links_one links_two
      where
        at_k : (b : List ℕ) (x : ℕ) (a : List ℕ) → k ∷ [] ≡ b ++ x ∷ a → (x ≡ k) × (link_at (set links k link) k ≡ link_between (place.before ++ b) (a ++ place.after))
        at_k [] x a at = let rest : a ≡ [] = (cc) in (
          (cc),
          rw (rest, append-nil place.before) (ap neighbours (get_or-set_same links k link no_link below) ∙ (λ i. record { prev = place.prev_is i; next = place.next_is i })),
        )
        at_k (q ∷ b) x a at = absurd (cons_not_nil b x a (cc))

  -- k is taken out from between its two neighbours
  module _ (k : ℕ) (inside : 0 < times k list) (d : Link) where
    abbrev link : Link
    link = get_or links k d

    abbrev before : List ℕ
    before = (split_at k list inside).0

    abbrev after : List ℕ
    after = (split_at k list inside).1

    list_is : list ≡ before ++ k ∷ after
    list_is = (split_at k list inside).2

    between : neighbours link ≡ link_between before after
    between = ap neighbours (get_or_default links k d no_link (kept.within p k inside)) ∙ kept.linked.links_are p before k after list_is

    prev_is : unless_nobody link.prev ≡ last_or before None
    prev_is = ap (λ (n : Neighbours). n.prev) between

    next_is : unless_nobody link.next ≡ first_or after None
    next_is = ap (λ (n : Neighbours). n.next) between

    pub taken_prev_below : IfSome (unless_nobody link.prev) (λ k. k < length links)
    taken_prev_below = prev_below (unless_nobody link.prev) (first_or (k ∷ after) None) (record { before = before; after = k ∷ after; is = list_is; prev_is = prev_is; next_is = refl })

    pub taken_next_below : IfSome (unless_nobody link.next) (λ k. k < length links)
    taken_next_below = next_below (last_or (before ++ k ∷ []) None) (unless_nobody link.next)
        (record { before = before ++ k ∷ []; after = after; is = list_is ∙ sym (append_assoc before (k ∷ []) after); prev_is = refl; next_is = next_is })

    module _ (mid_ends new_ends : List Ends) (owners : length new_ends ≡ length ends)
        (ends_one : (q : ℕ) → bounds_at mid_ends q ≡ cond (nat_eq q p)
        (record (bounds_at ends q) { first = own (unless_nobody link.prev) (bounds_at ends q).first (unless_nobody link.next) }) (bounds_at ends q))
        (ends_two : (q : ℕ) → bounds_at new_ends q ≡ cond (nat_eq q p)
        (record (bounds_at mid_ends q) { last = own (unless_nobody link.next) (bounds_at mid_ends q).last (unless_nobody link.prev) }) (bounds_at mid_ends q)) (d' : Ends) where
      now_long : (get_or new_ends p d').len ≡ length before + (1 + length after)
      now_long = long ends links kept p owner (unless_nobody link.prev) (unless_nobody link.next) (unless_nobody link.next) (unless_nobody link.prev) mid_ends new_ends
          owners ends_one ends_two d' ∙ ap length list_is ∙ omega (arith, length-append before (k ∷ after))

      -- the list had a member
      pub take_fits : 0 < (get_or new_ends p d').len
      take_fits = omega (arith, now_long)

      pub take_written : (mid_links new_links : List Link) (members : length new_links ≡ length links)
          → ((q : ℕ) → link_at mid_links q ≡ with_next (unless_nobody link.prev) (unless_nobody link.next) (link_at links) q)
          → ((q : ℕ) → link_at new_links q ≡ with_prev (unless_nobody link.next) (unless_nobody link.prev) (link_at mid_links) q)
          → Relists ends links p (without k list)
          (set new_ends p (record { first = (get_or new_ends p d').first; last = (get_or new_ends p d').last; len = (get_or new_ends p d').len - 1 })) new_links
      take_written mid_links new_links members links_one links_two =
          let once = kept.apart.once p k in
          let sum = ap (times k) list_is ∙ in_midst before k after in
          rw (ap (without k) list_is, without_split k before after (omega (arith, ap (times k) list_is)))
          (relists ends links kept p owner (unless_nobody link.prev) (unless_nobody link.next) (unless_nobody link.next) (unless_nobody link.prev) mid_ends new_ends
          owners ends_one ends_two d' ((get_or new_ends p d').len - 1) k (kept.within p k inside) before (k ∷ []) [] after list_is
          (omega (arith, now_long, length-append before after)) prev_is next_is next_is prev_is (omega arith) (omega arith)
          (λ q other. elim (eq-zero-or-pos (times k (listed ends links q))) [ inl none ↦ none | inr more ↦ absurd (other (kept.apart.alone q p k more inside)) ])
          (λ x _. refl) (omega arith) links mid_links new_links members (λ q _. refl) (λ b x a at. absurd (cons_not_nil b x a at)) links_one links_two)
