-- A search that settles nodes by ascending distance, over any nodes and edges: what its steps keep, and what it has found at its end.
use Rattle.std.proofs.Common.{◌≡◌, ◌≢◌, ℕ, zero, suc, ◌+◌, ◌≤◌, ◌⊎◌, Option, Some, None, option_map, refl, sym, ap, ◌∙◌, inl, inr, arith}
use Rattle.slotmap_paths.specs.Paths.{PathOf, ComesAlong, TracedBy, TracedBelow}
use Rattle.slotmap_paths.specs.Settling.{IsSettledWithin, IsWaiting, Settling}

-- last edges that lead back to the start
module _ {Node Edge R : Type 0} (Step : Edge → Node → Node → ℕ → Type 0) (distance : R → ℕ) (last : R → Option Edge) (start : Node) (found : Node → Option R) where
  pub traced_path : (n : ℕ) (b : Node) (s : ℕ) (by : Option Edge) → TracedBy Step distance last start found n b s by → PathOf Step n start b s
  traced_path zero b s by t = (sym t.0, t.1)
  traced_path (suc n) b s by t = (t.1, distance t.3, t.0, t.2, traced_path n t.1 (distance t.3) (last t.3) t.8, t.6, t.7)

  pub traced_comes : (n : ℕ) (b : Node) (s : ℕ) (by : Option Edge) → TracedBy Step distance last start found n b s by → ComesAlong Step start (λ a. option_map distance (found a)) b s by
  traced_comes zero b s by t = rw t.2 (t.0, t.1)
  traced_comes (suc n) b s by t = rw t.4 (t.1, distance t.3, t.2, ap (option_map distance) t.5, t.6, t.7)

  -- more was found
  module _ (found' : Node → Option R) (grows : (b : Node) (r : R) → found b ≡ Some r → found' b ≡ Some r) where
    traced_grows : (n : ℕ) (b : Node) (s : ℕ) (by : Option Edge) → TracedBy Step distance last start found n b s by → TracedBy Step distance last start found' n b s by
    traced_grows zero b s by t = t
    traced_grows (suc n) b s by t = (t.0, t.1, t.2, t.3, t.4, grows t.1 t.3 t.5, t.6, t.7, traced_grows n t.1 (distance t.3) (last t.3) t.8)

    pub below_grows : (m m' : ℕ) → m ≤ m' → (b : Node) (s : ℕ) (by : Option Edge)
        → TracedBelow Step distance last start found m b s by → TracedBelow Step distance last start found' m' b s by
    below_grows m m' more b s by t = (t.0, omega (arith, t.1), traced_grows t.0 b s by t.2)

module _ {Node Edge Handle R C : Type 0} {distance : R → ℕ} {last : R → Option Edge} {node : C → Node} {via : C → Option Edge}
    {Step : Edge → Node → Node → ℕ → Type 0} {start : Node} where
  -- the start alone waits
  pub settling_start : (settled : Node → Option R) (size : ℕ) (waiting : Handle → Option (ℕ × C)) → ((b : Node) → settled b ≡ None)
      → (h : Handle) (x : C) → waiting h ≡ Some (0, x) → node x ≡ start → via x ≡ None → ((q : Handle) (t : ℕ) (y : C) → waiting q ≡ Some (t, y) → (t ≡ 0) × (y ≡ x))
      → (Left : Edge → Type 0) → Settling distance last node via Step start settled size waiting Left
  settling_start settled size waiting none h x there at first only Left = record {
    traced = λ b r is. absurd (grind (arith, none b, is));
    tracing = λ q t y is. (let one = only q t y is in (zero, omega arith, (ap node one.1 ∙ at, one.0, ap via one.1 ∙ first)));
    begun = inr (h, 0, x, there, at, omega arith);
    covered = λ k a b c r is. absurd (grind (arith, none a, is));
    ordered = λ b r h t x is. absurd (grind (arith, none b, is));
  }

  module _ {settled : Node → Option R} {size : ℕ} {waiting : Handle → Option (ℕ × C)} {Left : Edge → Type 0}
      (settling : Settling distance last node via Step start settled size waiting Left) where
    -- from a settled node an edge leads on
    pub traced_on : (k : Edge) (a b : Node) (c : ℕ) (r : R) → settled a ≡ Some r → Step k a b c → TracedBelow Step distance last start settled (suc size) b (distance r + c) (Some k)
    traced_on k a b c r is step = let t = settling.traced a r is in (suc t.0, omega (arith, t.1), (k, a, c, r, refl, is, step, refl, t.2))

    -- an edge needs no step any more: where it leads is settled or waits
    pub settling_passed : (Left' : Edge → Type 0) (k : Edge) → ((q : Edge) → Left q → (q ≡ k) ⊎ Left' q)
        → ((a b : Node) (c : ℕ) (r : R) → settled a ≡ Some r → Step k a b c → IsSettledWithin distance settled b (distance r + c) ⊎ IsWaiting node waiting b (distance r + c))
        → Settling distance last node via Step start settled size waiting Left'
    settling_passed Left' k rest here = record {
      traced = settling.traced;
      tracing = settling.tracing;
      begun = settling.begun;
      covered = λ q a b c r is step. elim (settling.covered q a b c r is step) [
        | inl left ↦ elim (rest q left) [
          | inl same ↦ inr (here a b c r is (rw (← same) step))
          | inr left' ↦ inl left'
        ]
        | inr found ↦ inr found
      ];
      ordered = settling.ordered;
    }

    -- one more waits, no nearer than what is settled
    module _ (same_handle : (p q : Handle) → (p ≡ q) ⊎ (p ≢ q)) (waiting' : Handle → Option (ℕ × C)) (h : Handle) (t : ℕ) (x : C) where
      module _ (fresh : waiting h ≡ None) (there : waiting' h ≡ Some (t, x)) (others : (q : Handle) → q ≢ h → waiting' q ≡ waiting q) where
        waits_still : (b : Node) (s : ℕ) → IsWaiting node waiting b s → IsWaiting node waiting' b s
        waits_still b s waits = (waits.0, waits.1, waits.2, still, waits.4, waits.5)
          where
            still : waiting' waits.0 ≡ Some (waits.1, waits.2)
            still = elim (same_handle waits.0 h) [
              | inl is ↦ absurd (grind (arith, is, fresh, waits.3))
              | inr other ↦ others waits.0 other ∙ waits.3
            ]

        pub settling_pushed : TracedBelow Step distance last start settled (suc size) (node x) t (via x) → ((b : Node) (r : R) → settled b ≡ Some r → distance r ≤ t)
            → Settling distance last node via Step start settled size waiting' Left
        settling_pushed trace latest = record {
          traced = settling.traced;
          tracing = λ q s y is. elim (same_handle q h) [
            | inl same ↦ (let one : Some (t, x) ≡ Some (s, y) = sym there ∙ ap waiting' (sym same) ∙ is in
                let times : t ≡ s = grind (arith, one) in let jobs : x ≡ y = grind (arith, one) in rw (← times, ← jobs) trace)
            | inr other ↦ settling.tracing q s y (sym (others q other) ∙ is)
          ];
          begun = elim settling.begun [
            | inl found ↦ inl found
            | inr waits ↦ inr (waits_still start 0 waits)
          ];
          covered = λ k a b c r is step. elim (settling.covered k a b c r is step) [
            | inl left ↦ inl left
            | inr found ↦ inr (elim found [
              | inl done ↦ inl done
              | inr waits ↦ inr (waits_still b (distance r + c) waits)
            ])
          ];
          ordered = λ b r q s y is at. elim (same_handle q h) [
            | inl same ↦ (let one : Some (t, x) ≡ Some (s, y) = sym there ∙ ap waiting' (sym same) ∙ at in let times : t ≡ s = grind (arith, one) in rw (← times) (latest b r is))
            | inr other ↦ settling.ordered b r q s y is (sym (others q other) ∙ at)
          ];
        }

      -- the first that waits is taken out
      module _ (first : waiting h ≡ Some (t, x)) (gone : waiting' h ≡ None) (others : (q : Handle) → q ≢ h → waiting' q ≡ waiting q) where
        was : (q : Handle) (s : ℕ) (y : C) → waiting' q ≡ Some (s, y) → waiting q ≡ Some (s, y)
        was q s y is = elim (same_handle q h) [
          | inl same ↦ absurd (grind (arith, same, gone, is))
          | inr other ↦ sym (others q other) ∙ is
        ]

        -- who waits still waits, or was the first
        waits_or : (b : Node) (s : ℕ) → IsWaiting node waiting b s → ((node x ≡ b) × (t ≤ s)) ⊎ IsWaiting node waiting' b s
        waits_or b s waits = elim (same_handle waits.0 h) [
          | inl same ↦ (let one : Some (t, x) ≡ Some (waits.1, waits.2) = sym first ∙ ap waiting (sym same) ∙ waits.3 in
              let times : t ≡ waits.1 = grind (arith, one) in let jobs : x ≡ waits.2 = grind (arith, one) in inl (ap node jobs ∙ waits.4, rw times waits.5))
          | inr other ↦ inr (waits.0, waits.1, waits.2, others waits.0 other ∙ waits.3, waits.4, waits.5)
        ]

        -- its node is settled already
        module _ (r : R) (had : settled (node x) ≡ Some r) where
          still_covered : (b : Node) (s : ℕ) → IsSettledWithin distance settled b s ⊎ IsWaiting node waiting b s → IsSettledWithin distance settled b s ⊎ IsWaiting node waiting' b s
          still_covered b s (inl done) = inl done
          still_covered b s (inr waits) = elim (waits_or b s waits) [
            | inl at ↦ inl (r, rw (← at.0) had, omega (arith, settling.ordered (node x) r h t x had first, at.1))
            | inr on ↦ inr on
          ]

          pub settling_skipped : Settling distance last node via Step start settled size waiting' Left
          settling_skipped = record {
            traced = settling.traced;
            tracing = λ q s y is. settling.tracing q s y (was q s y is);
            begun = still_covered start 0 settling.begun;
            covered = λ k a b c o is step. elim (settling.covered k a b c o is step) [
              | inl left ↦ inl left
              | inr found ↦ inr (still_covered b (distance o + c) found)
            ];
            ordered = λ b o q s y is at. settling.ordered b o q s y is (was q s y at);
          }

        -- its node is settled now, and the edges from there are left
        module _ (same_node : (a b : Node) → (a ≡ b) ⊎ (a ≢ b)) (least : (q : Handle) (s : ℕ) (y : C) → waiting q ≡ Some (s, y) → t ≤ s) (new : settled (node x) ≡ None)
            (settled' : Node → Option R) (r : R) (here : settled' (node x) ≡ Some r) (at_t : distance r ≡ t) (along : last r ≡ via x)
            (apart : (b : Node) → b ≢ node x → settled' b ≡ settled b) where
          grown : (b : Node) (o : R) → settled b ≡ Some o → settled' b ≡ Some o
          grown b o is = elim (same_node b (node x)) [
            | inl same ↦ absurd (grind (arith, same, new, is))
            | inr other ↦ apart b other ∙ is
          ]

          -- what is settled is the node, or was before
          now_or : (b : Node) (o : R) → settled' b ≡ Some o → ((b ≡ node x) × (o ≡ r)) ⊎ (settled b ≡ Some o)
          now_or b o is = elim (same_node b (node x)) [
            | inl same ↦ (let one : Some r ≡ Some o = sym here ∙ ap settled' (sym same) ∙ is in let records : o ≡ r = grind (arith, one) in inl (same, records))
            | inr other ↦ inr (sym (apart b other) ∙ is)
          ]

          settles : (b : Node) (s : ℕ) → IsSettledWithin distance settled b s ⊎ IsWaiting node waiting b s → IsSettledWithin distance settled' b s ⊎ IsWaiting node waiting' b s
          settles b s (inl done) = inl (done.0, grown b done.0 done.1, done.2)
          settles b s (inr waits) = elim (waits_or b s waits) [
            | inl at ↦ inl (r, rw (← at.0) here, omega (arith, at_t, at.1))
            | inr on ↦ inr on
          ]

          -- all that is settled is no farther
          pub settled_latest : (b : Node) (o : R) → settled' b ≡ Some o → distance o ≤ t
          settled_latest b o is = elim (now_or b o is) [
            | inl one ↦ omega (arith, ap distance one.1, at_t)
            | inr old ↦ settling.ordered b o h t x old first
          ]

          more : (m m' : ℕ) → m ≤ m' → (b : Node) (s : ℕ) (by : Option Edge)
              → TracedBelow Step distance last start settled m b s by → TracedBelow Step distance last start settled' m' b s by
          more = below_grows Step distance last start settled settled' grown

          pub settling_settled : (size' : ℕ) → size' ≡ suc size → ((k : Edge) → Left k → ⊥) → (Left' : Edge → Type 0)
              → ((k : Edge) (b : Node) (c : ℕ) → Step k (node x) b c → Left' k) → Settling distance last node via Step start settled' size' waiting' Left'
          settling_settled size' grew none Left' leaves = record {
            traced = λ b o is. elim (now_or b o is) [
              | inl one ↦ rw (one.0, one.1, at_t, along) (more (suc size) size' (omega arith) (node x) t (via x) (settling.tracing h t x first))
              | inr old ↦ more size size' (omega arith) b (distance o) (last o) (settling.traced b o old)
            ];
            tracing = λ q s y is. more (suc size) (suc size') (omega arith) (node y) s (via y) (settling.tracing q s y (was q s y is));
            begun = settles start 0 settling.begun;
            covered = λ k a b c o is step. elim (now_or a o is) [
              | inl one ↦ inl (leaves k b c (rw (← one.0) step))
              | inr old ↦ elim (settling.covered k a b c o old step) [
                | inl left ↦ absurd (none k left)
                | inr found ↦ inr (settles b (distance o + c) found)
              ]
            ];
            ordered = λ b o q s y is at. elim (now_or b o is) [
              | inl one ↦ omega (arith, ap distance one.1, at_t, least q s y (was q s y at))
              | inr old ↦ settling.ordered b o q s y old (was q s y at)
            ];
          }

    -- none waits, and no edge is left: each sum of a path is the distance of its end, or more
    module _ (none : (k : Edge) → Left k → ⊥) (empty : (q : Handle) → waiting q ≡ None) where
      done_of : (b : Node) (s : ℕ) → IsSettledWithin distance settled b s ⊎ IsWaiting node waiting b s → IsSettledWithin distance settled b s
      done_of b s (inl done) = done
      done_of b s (inr waits) = absurd (grind (arith, empty waits.0, waits.3))

      pub settled_least : (n : ℕ) (b : Node) (s : ℕ) → PathOf Step n start b s → IsSettledWithin distance settled b s
      settled_least zero b s path = rw (← path.0, path.1) (done_of start 0 settling.begun)
      settled_least (suc n) b s path =
          let before = settled_least n path.0 path.1 path.4 in
          elim (settling.covered path.2 path.0 b path.3 before.0 before.1 path.5) [
            | inl left ↦ absurd (none path.2 left)
            | inr found ↦ (let done = done_of b (distance before.0 + path.3) found in (done.0, done.1, omega (arith, done.2, before.2, path.6)))
          ]
