-- Iterators along the links of a list: where they begin, and their steps, from either end.
use Rattle.std.proofs.Common.{◌≡◌, true, false, cond, nat_eq, ◌-◌, ◌<◌, ◌⊎◌, Some, ◌∷◌, ◌++◌, length, get_or, ◌∙◌, arith, append_assoc, length-append, append-nil}
use Rattle.std.proofs.Common.{ℕ, None, List, [], take, inl, inr, refl, sym, ap}
use Rattle.std.proofs.Math.Seq.{take-append_seam}
use Rattle.std.proofs.lemmas.List.{take_all}
use Rattle.slotmap_links.specs.Lists.{first_or, last_or, numbers_from, times, Lists, list_of, IsIn}
use Rattle.slotmap_links.specs.Kept.{unless_nobody, link_at, nobody, no_link, listed, lists_by, AreKept}
use Rattle.slotmap_links.specs.Linked.{Neighbours, follow, Bounds}
use Rattle.slotmap_links.specs.Segment.{IsSegment, IsTail}
use Rattle.slotmap_links.specs.declared.{Link.Link, Ends.Ends}
use Rattle.slotmap_links.proofs.SeenLists.{ends_here, from_here, list_here, somebody_is, stands}
use Rattle.slotmap_links.proofs.Counts.{one_itself, times_first, times_joined}
use Rattle.slotmap_links.proofs.{Linking.follow_is, Linking.last_behind, KeptLists.list_fits}

-- a list has a last number, or none
at_back : (ks : List ℕ) → (ks ≡ []) ⊎ ((es : List ℕ) × (e : ℕ) × (ks ≡ es ++ e ∷ []))
at_back [] = inl refl
at_back (k ∷ ks) = elim (at_back ks) [
  | inl none ↦ inr ([], k, ap (λ l. k ∷ l) none)
  | inr some ↦ inr (k ∷ some.0, some.1, ap (λ l. k ∷ l) some.2)
]

-- what stands for a number is that number
number_is : (n k : ℕ) → unless_nobody n ≡ Some k → n ≡ k
number_is n k = elim (nat_eq n nobody) as (λ b. cond b None (Some n) ≡ Some k → n ≡ k) [
  | true ↦ λ is. absurd (cc)
  | false ↦ λ is. cc
]

module _ {links : List Link} {left first last : ℕ} (s : IsSegment links left first last) where
  segment_is : follow (link_at links) left (unless_nobody first) ≡ s.ahead
  segment_is = ap (λ o. follow (link_at links) left o) s.first_is ∙ follow_is (link_at links) left s.before (s.ahead ++ s.after) s.links_are
      ∙ ap (λ n. take n (s.ahead ++ s.after)) s.left_is ∙ take-append_seam s.ahead s.after

  pub segment_long : left ≡ length (follow (link_at links) left (unless_nobody first))
  segment_long = s.left_is ∙ ap length (sym segment_is)

  -- as long as members are left, there is one at each end
  module _ (more : 0 < left) where
    front : (es : List ℕ) × (s.ahead ≡ first ∷ es)
    front = by s.ahead refl
      where
        by : (ks : List ℕ) → s.ahead ≡ ks → (es : List ℕ) × (s.ahead ≡ first ∷ es)
        by [] is = absurd (omega (arith, s.left_is ∙ ap length is))
        by (k ∷ es) is = (es, is ∙ ap (λ x. x ∷ es) (sym (number_is first k (s.first_is ∙ ap (λ l. first_or (l ++ s.after) None) is))))

    back : (es : List ℕ) × (s.ahead ≡ es ++ last ∷ [])
    back = elim (at_back s.ahead) [
      | inl none ↦ absurd (omega (arith, s.left_is ∙ ap length none))
      | inr some ↦ (
        some.0,
        some.2 ∙ ap (λ x. some.0 ++ x ∷ []) (sym (number_is last some.1 (s.last_is ∙ ap (λ l. last_or (s.before ++ l) None) some.2 ∙ last_behind s.before some.0 some.1 []))),
      )
    ]

    pub front_below : first < length links
    front_below = s.below first (omega (arith, ap (times first) front.1, times_first first first front.0, one_itself first))

    pub back_below : last < length links
    back_below = s.below last (omega (arith, ap (times last) back.1 ∙ times_joined last back.0 (last ∷ []), times_first last last [], one_itself last))

    pub front_rest : IsSegment links (left - 1) ((get_or links first no_link).next) last
    front_rest =
        let whole : s.before ++ (s.ahead ++ s.after) ≡ s.before ++ first ∷ (front.0 ++ s.after) = ap (λ l. s.before ++ (l ++ s.after)) front.1 in
        record {
          before = s.before ++ first ∷ [];
          ahead = front.0;
          after = s.after;
          links_are = λ b x a at. s.links_are b x a (whole ∙ sym (append_assoc s.before (first ∷ []) (front.0 ++ s.after)) ∙ at);
          left_is = omega (arith, s.left_is ∙ ap length front.1);
          first_is = ap (λ (l : Neighbours). l.next) (s.links_are s.before first (front.0 ++ s.after) whole);
          last_is = s.last_is ∙ ap (λ l. last_or l None) (ap (λ l. s.before ++ l) front.1 ∙ sym (append_assoc s.before (first ∷ []) front.0));
          below = λ k inside. s.below k (omega (arith, ap (times k) front.1, times_first k first front.0));
        }

    pub back_rest : IsSegment links (left - 1) first ((get_or links last no_link).prev)
    back_rest =
        let behind : s.ahead ++ s.after ≡ back.0 ++ last ∷ s.after = ap (λ l. l ++ s.after) back.1 ∙ append_assoc back.0 (last ∷ []) s.after in
        let whole : s.before ++ (s.ahead ++ s.after) ≡ (s.before ++ back.0) ++ last ∷ s.after = ap (λ l. s.before ++ l) behind ∙ sym (append_assoc s.before back.0 (last ∷ s.after)) in
        record {
          before = s.before;
          ahead = back.0;
          after = last ∷ s.after;
          links_are = λ b x a at. s.links_are b x a (ap (λ l. s.before ++ l) behind ∙ at);
          left_is = omega (arith, s.left_is ∙ ap length back.1 ∙ length-append back.0 (last ∷ []));
          first_is = s.first_is ∙ ap (λ l. first_or l None) behind;
          last_is = ap (λ (l : Neighbours). l.prev) (s.links_are (s.before ++ back.0) last s.after whole);
          below = λ k inside. s.below k (omega (arith, ap (times k) back.1 ∙ times_joined k back.0 (last ∷ [])));
        }

-- what a step yields, and what is left then
module _ {links : List Link} {left first last : ℕ} (s : IsSegment links left first last) (more : 0 < left) where
  pub front_steps : follow (link_at links) left (unless_nobody first) ≡ first ∷ follow (link_at links) (left - 1) (unless_nobody (get_or links first no_link).next)
  unfolding front_rest
  front_steps = segment_is s ∙ (front s more).1 ∙ ap (λ l. first ∷ l) (sym (segment_is (front_rest s more)))

  pub back_steps : follow (link_at links) left (unless_nobody first) ≡ follow (link_at links) (left - 1) (unless_nobody first) ++ last ∷ []
  unfolding back_rest
  back_steps = segment_is s ∙ (back s more).1 ∙ ap (λ l. l ++ last ∷ []) (sym (segment_is (back_rest s more)))

-- the rest of a list, from a place on
module _ {links : List Link} {first : ℕ} (t : IsTail links first) where
  pub tail_is : follow (link_at links) (length links) (unless_nobody first) ≡ t.ahead
  tail_is = ap (λ o. follow (link_at links) (length links) o) t.first_is ∙ follow_is (link_at links) (length links) t.before t.ahead t.links_are ∙ take_all (length links) t.ahead t.few

  module _ (k : ℕ) (some : unless_nobody first ≡ Some k) where
    tail_front : (es : List ℕ) × (t.ahead ≡ k ∷ es)
    tail_front = by t.ahead refl
      where
        by : (ks : List ℕ) → t.ahead ≡ ks → (es : List ℕ) × (t.ahead ≡ k ∷ es)
        by [] is = absurd (let h = sym some ∙ t.first_is ∙ ap (λ l. first_or l None) is in cc)
        by (q ∷ es) is = (es, is ∙ ap (λ x. x ∷ es) (let h = sym (t.first_is ∙ ap (λ l. first_or l None) is) ∙ some in let same : q ≡ k = cc in same))

    pub tail_below : k < length links
    tail_below = t.below k (omega (arith, ap (times k) tail_front.1, times_first k k tail_front.0, one_itself k))

    pub tail_rest : IsTail links ((get_or links k no_link).next)
    tail_rest = record {
      before = t.before ++ k ∷ [];
      ahead = tail_front.0;
      links_are = λ b x a at. t.links_are b x a (ap (λ l. t.before ++ l) tail_front.1 ∙ sym (append_assoc t.before (k ∷ []) tail_front.0) ∙ at);
      few = omega (arith, ap length tail_front.1, t.few);
      first_is = ap (λ (n : Neighbours). n.next) (t.links_are t.before k tail_front.0 (ap (λ l. t.before ++ l) tail_front.1));
      below = λ x inside. t.below x (omega (arith, ap (times x) tail_front.1, times_first x k tail_front.0));
    }

module _ {links : List Link} {first : ℕ} (t : IsTail links first) (k : ℕ) (some : unless_nobody first ≡ Some k) where
  pub tail_steps : follow (link_at links) (length links) (unless_nobody first) ≡ k ∷ follow (link_at links) (length links) (unless_nobody (get_or links k no_link).next)
  unfolding tail_rest
  tail_steps = tail_is t ∙ (tail_front t k some).1 ∙ ap (λ l. k ∷ l) (sym (tail_is (tail_rest t k some)))

module _ {ends : List Ends} {links : List Link} (kept : AreKept ends links) {capacity : ℕ × ℕ} {s : Lists} (seen : lists_by ends links capacity ≡ s) (p : ℕ) where
  pub segment_begins : (x : Ends) → x ≡ get_or ends p x → p < length s.lists → IsSegment links x.len x.first x.last
  segment_begins x is there = let at = ends_here kept seen p x is there in record {
    before = [];
    ahead = list_of s p;
    after = [];
    links_are = λ b k a at. kept.linked.links_are p b k a (list_here kept seen p ∙ sym (append-nil (list_of s p)) ∙ at);
    left_is = ap (λ (b : Bounds). b.len) at;
    first_is = ap (λ (b : Bounds). b.first) at ∙ ap (λ l. first_or l None) (sym (append-nil (list_of s p)));
    last_is = ap (λ (b : Bounds). b.last) at;
    below = λ k inside. kept.within p k (omega (arith, ap (times k) (list_here kept seen p)));
  }

  pub tail_begins : (k : ℕ) → IsIn s p k → IsTail links k
  tail_begins k inside =
      let st = stands kept seen p k inside in
      let is : listed ends links p ≡ st.before ++ k ∷ st.after = list_here kept seen p ∙ st.is in
      record {
        before = st.before;
        ahead = k ∷ st.after;
        links_are = λ b x a at. kept.linked.links_are p b x a (is ∙ at);
        few = omega (arith, list_fits ends links kept p, ap length is, length-append st.before (k ∷ st.after));
        first_is = somebody_is kept seen p k inside;
        below = λ x more. kept.within p x (omega (arith, ap (times x) is ∙ times_joined x st.before (k ∷ st.after)));
      }

  pub tail_value : (k : ℕ) → IsIn s p k → follow (link_at links) (length links) (unless_nobody k) ≡ numbers_from k (list_of s p)
  unfolding tail_begins
  tail_value k inside = tail_is (tail_begins k inside) ∙ sym (from_here kept seen p k inside)
