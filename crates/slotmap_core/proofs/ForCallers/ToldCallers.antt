-- What was put under a key is found, by positions, if no command in between writes the key or takes it out.
-- For callers.
use Rattle.std.proofs.Common.{◌≡◌, ◌≢◌, ℕ, zero, suc, ◌+◌, ◌-◌, ◌<◌, List, [], ◌∷◌, length, take, drop, slice_get, Some, Ok, true, refl, ap, ◌∙◌, arith}
use Rattle.std.specs.List.{AllByRecursion}
use Rattle.slotmap_core.specs.Key.{Key}
use Rattle.slotmap_core.specs.Told.{Knowledge, has, told, Reads, ReadsWhatWasPut}
use Rattle.slotmap_core.specs.declared.commands.{DetachCommand.DetachCommand, Reply.Reply}
use Rattle.slotmap_core.proofs.General.KeyLemmas.{keys_total, exact_keys, itself, tied}
use Rattle.slotmap_core.proofs.General.Positions.{at_in_part}
use Rattle.slotmap_core.specs.declared.commands.Command.TheVariants as command
use Rattle.slotmap_core.specs.declared.commands.DetachCommand.TheVariants as detaching
use Rattle.slotmap_core.specs.declared.commands.Reply.TheVariants as reply

module _ {K V : Type 0} (data_of : K → Key) (k : Key) where
  -- the command neither writes k nor takes it out, whatever its reply
  abbrev pub LeavesAlone : DetachCommand K V → Type 0
  LeavesAlone (detaching.Plain (command.Replace other w)) = data_of other ≢ k
  LeavesAlone (detaching.Plain (command.Remove other)) = data_of other ≢ k
  LeavesAlone (detaching.Plain command.Retain) = ⊥
  LeavesAlone (detaching.Plain command.Clear) = ⊥
  LeavesAlone (detaching.Plain command.Drain) = ⊥
  LeavesAlone (detaching.Detach other) = data_of other ≢ k
  LeavesAlone (detaching.Reattach other w) = data_of other ≢ k
  LeavesAlone _ = Unit {0}

module _ {K V : Type 0} (data_of : K → Key) (k : Key) where
  -- between the two positions no command writes k or takes it out
  abbrev pub StaysPut : List (DetachCommand K V) → ℕ → ℕ → Type 0
  StaysPut commands i j = (n : ℕ) (b : DetachCommand K V) → i < n → n < j → slice_get commands n ≡ Some b → LeavesAlone data_of k b

  -- the same of commands that are written out
  pub stays_put : (commands : List (DetachCommand K V)) (i j : ℕ) → AllByRecursion (LeavesAlone data_of k) (take (j - (i + 1)) (drop (i + 1) commands)) → StaysPut commands i j
  stays_put commands i j all n b more less is_b =
      let at : i + 1 + (n - (i + 1)) ≡ n = omega arith in at_in_part (LeavesAlone data_of k) (i + 1) (j - (i + 1)) (n - (i + 1)) commands b all (omega arith) (ap (slice_get commands) at ∙ is_b)

module _ {K V R E : Type 0} (data_of : K → Key) (k : Key) where
  -- the command binds k to v: an Insert that returns k, a Replace of it that finds it, a Reattach of it that succeeds
  abbrev pub Puts : V → DetachCommand K V → Reply K V R E → Type 0
  Puts v (detaching.Plain (command.Insert w)) (reply.Key other) = (w ≡ v) × (data_of other ≡ k)
  Puts v (detaching.Plain (command.Replace other w)) (reply.Put (Ok old)) = (w ≡ v) × (data_of other ≡ k)
  Puts v (detaching.Reattach other w) reply.Done = (w ≡ v) × (data_of other ≡ k)
  Puts v _ _ = ⊥

  -- if the command asks for k, the reply has v, or what may be seen of it
  abbrev pub Finds : (V → R → Type 0) → V → DetachCommand K V → Reply K V R E → Type 0
  Finds looks v (detaching.Plain (command.Get other)) answer = data_of other ≡ k → (r : R) × (answer ≡ reply.Looked (Some r)) × looks v r
  Finds looks v (detaching.Plain (command.Contains other)) answer = data_of other ≡ k → answer ≡ reply.Flag true
  Finds looks v (detaching.Plain (command.Replace other w)) answer = data_of other ≡ k → answer ≡ reply.Put (Ok v)
  Finds looks v (detaching.Plain (command.Remove other)) answer = data_of other ≡ k → answer ≡ reply.Taken (Some v)
  Finds looks v (detaching.Detach other) answer = data_of other ≡ k → answer ≡ reply.Taken (Some v)
  Finds looks v _ _ = Unit {0}

  module _ (v : V) (c : DetachCommand K V) (r : Reply K V R E) where
    put_told : (known : Knowledge V R) → Puts v c r → told data_of k c r known ≡ has v
    put_told known puts = grind (arith, itself keys_total exact_keys k)

    still_known : (looks : V → R → Type 0) (known : Key → Knowledge V R) → known k ≡ has v → LeavesAlone data_of k c → Reads data_of looks known c r
        → told data_of k c r (known k) ≡ has v
    still_known looks known is alone reads = grind (arith, is, tied keys_total exact_keys)

    known_found : (looks : V → R → Type 0) (known : Key → Knowledge V R) → known k ≡ has v → Reads data_of looks known c r → Finds looks v c r
    known_found looks known is reads = grind (arith, is)

module _ {K V R E : Type 0} (data_of : K → Key) (looks : V → R → Type 0) where
  -- there is one reply for each command
  pub one_each : (start : Key → Knowledge V R) (commands : List (DetachCommand K V)) (replies : List (Reply K V R E)) → ReadsWhatWasPut data_of looks start commands replies
      → length replies ≡ length commands
  one_each start [] [] law = refl
  one_each start (c ∷ cs) (r ∷ rs) law = ap suc (one_each (λ k. told data_of k c r (start k)) cs rs law.1)
  one_each start _ _ law = absurd law

  -- so a command's position has a reply
  pub answered : (start : Key → Knowledge V R) (commands : List (DetachCommand K V)) (replies : List (Reply K V R E)) (j : ℕ) (d : DetachCommand K V)
      → ReadsWhatWasPut data_of looks start commands replies → slice_get commands j ≡ Some d → (answer : Reply K V R E) × (slice_get replies j ≡ Some answer)
  answered start (c ∷ cs) (r ∷ rs) zero d law is_d = (r, refl)
  answered start (c ∷ cs) (r ∷ rs) (suc j) d law is_d = answered (λ k. told data_of k c r (start k)) cs rs j d law.1 is_d
  answered start [] [] j d law is_d = absurd (cc)
  answered start _ _ j d law is_d = absurd law

module _ {K V R E : Type 0} (data_of : K → Key) (looks : V → R → Type 0) (k : Key) (v : V) where
  module _ (d : DetachCommand K V) (answer : Reply K V R E) where
    known_read : (j : ℕ) (start : Key → Knowledge V R) (cs : List (DetachCommand K V)) (rs : List (Reply K V R E)) → ReadsWhatWasPut data_of looks start cs rs → start k ≡ has v
        → ((n : ℕ) (b : DetachCommand K V) → n < j → slice_get cs n ≡ Some b → LeavesAlone data_of k b)
        → slice_get cs j ≡ Some d → slice_get rs j ≡ Some answer → Finds data_of k looks v d answer
    known_read j start [] rs law is alone h g = absurd (cc)
    known_read j start (b ∷ bs) [] law is alone h g = absurd (cc)
    known_read zero start (b ∷ bs) (q ∷ qs) law is alone h g = let here : b ≡ d = cc in let said : q ≡ answer = cc in known_found data_of k v d answer looks start is (rw (here, said) at law.0)
    known_read (suc j) start (b ∷ bs) (q ∷ qs) law is alone h g =
        known_read j (λ other. told data_of other b q (start other)) bs qs law.1
        (still_known data_of k v b q looks start is (alone 0 b (omega arith) refl) law.0) (λ n x less. alone (suc n) x (omega arith)) h g

  -- once the command at one position bound k to v, the command at a later one finds v
  pub put_found : (start : Key → Knowledge V R) (commands : List (DetachCommand K V)) (replies : List (Reply K V R E)) (i j : ℕ) (c d : DetachCommand K V) (r answer : Reply K V R E)
      → ReadsWhatWasPut data_of looks start commands replies → i < j → StaysPut data_of k commands i j
      → slice_get commands i ≡ Some c → slice_get replies i ≡ Some r → Puts data_of k v c r
      → slice_get commands j ≡ Some d → slice_get replies j ≡ Some answer → Finds data_of k looks v d answer
  put_found start [] replies i j c d r answer law less stays is_c is_r puts is_d is_answer = absurd (cc)
  put_found start (b ∷ bs) [] i j c d r answer law less stays is_c is_r puts is_d is_answer = absurd (cc)
  put_found start (b ∷ bs) (q ∷ qs) i zero c d r answer law less stays is_c is_r puts is_d is_answer = absurd (omega arith)
  put_found start (b ∷ bs) (q ∷ qs) zero (suc j) c d r answer law less stays is_c is_r puts is_d is_answer =
      let here : b ≡ c = cc in
      let said : q ≡ r = cc in
      known_read d answer j (λ other. told data_of other b q (start other)) bs qs law.1 (rw (here, said) (put_told data_of k v c r (start k) puts))
      (λ n x inside. stays (suc n) x (omega arith) (omega arith)) is_d is_answer
  put_found start (b ∷ bs) (q ∷ qs) (suc i) (suc j) c d r answer law less stays is_c is_r puts is_d is_answer =
      put_found (λ u. told data_of u b q (start u)) bs qs i j c d r answer law.1 (omega arith) (λ n x more inside. stays (suc n) x (omega arith) (omega arith)) is_c is_r puts is_d is_answer
