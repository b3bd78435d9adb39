-- What a call of one of two joined maps does is a step of the joined machine.
use Rattle.std.proofs.Common.{◌≡◌, ◌+◌, ◌^◌, ◌∷◌, ◌++◌}
use Rattle.std.specs.FinMap as map
use Rattle.slotmap_run.proofs.Common.{JoinedGiven, JoinedStep, JoinedDetachStep, ReattachError, DetachCommand, JoinedCommand, JoinedDetachCommand, JoinedReply, joined_reattach_reply_of, JoinFollows}
use Rattle.slotmap_run.proofs.Common.{Full, Memory, Command, Plain, Detach, Reattach, Reply, Served, joined, told_by, Known}
use Rattle.slotmap_core.proofs.Common.{Reattaches, RunGiven as First, Follows as FollowsFirst, reply_keys, WithDictionary, RepliesByDictionary, DictionaryStep, DetachDictionaryStep, RefusesReattach}
use Rattle.slotmap_core.proofs.Common.{Content, IsContent, Inserts, Removes, Detaches, IsIssued, StandsIn, remove, RefusesPut, LooksAt, Dictionary, MayGrow, Refuses, ◌∙◌, same_Some, slice_get}
use Rattle.slotmap_core.proofs.Common.{Key, Keeps, State, Fits, Lasts, Pairs, get, put, Joined, named, noted, None, inl, refl, ap, Result, OnSome, IfNone, OnOk, IfErr, IsErr, zero, List, Option, Some}
use Rattle.slotmap_core.proofs.Common.{inr, sym, Ok, Err, ℕ, suc, []}
use Rattle.slotmap_core.specs.declared.commands.Command.TheVariants.{Insert, Remove}
use Rattle.slotmap_run.proofs.{StepCases.detach_cases, Laws.Shrinks, OtherSteps.keeps, Fits.stands_of}
use Rattle.slotmap_run.proofs.KnownKeys.{fewer, one_more, puts, takes}
use Rattle.slotmap_core.specs.Step as first_step
use Rattle.slotmap_core.specs.declared.errors.ReattachError.TheVariants as again
use Rattle.slotmap_core.specs.declared.commands.Reply.TheVariants as first_reply
use Rattle.slotmap_core.specs.declared.joined.JoinedCommand.TheVariants as command
use Rattle.slotmap_core.specs.declared.joined.JoinedDetachCommand.TheVariants as detaching
use Rattle.slotmap_core.specs.declared.joined.JoinedReply.TheVariants as reply
use Rattle.slotmap_run.proofs.Steps as first

-- calls of the primary map

-- the machine of the primary map: no command calls a closure there
abbrev pub closed : {K V W R : Type 0} → JoinedGiven K W R → First K V (Unit {0}) (Unit {0})
closed given = record { data_of = given.data_of; looks = λ v r. ⊥; keeps = λ k v w stays. ⊥; makes = λ k r. ⊥; reuses = given.reuses }

module _ {K V W R C : Type 0} (given : JoinedGiven K W R) (old new : Content V) (m : Pairs W) (keys : List K)
    (Machine : Joined K V W → C → JoinedReply K V W R → Joined K V W → Type 0)
    (Telling : WithDictionary K V W → C → JoinedReply K V W R → WithDictionary K V W → Type 0)
    (c : C) (r : JoinedReply K V W R) (a : DetachCommand K V) (b : Reply K V (Unit {0}) (Unit {0})) where
  -- a step of the primary map that returns no key
  quiet : reply_keys given.data_of b ≡ [] → FollowsFirst (first_step.DetachStep (closed given)) old a b new
      → ((s t : State V) → first_step.DetachStep (closed given) s a b t → Machine (joined s m keys) c r (joined t m keys))
      → ((s t : State V) (d : Dictionary W) → Machine (joined s m keys) c r (joined t m keys) → Telling (told_by s m keys d) c r (told_by t m keys d))
      → JoinFollows given.data_of Machine Telling old m keys c r new m keys
  quiet none follows step telling = record {
    step = λ s fits.
        let moved = follows.step s fits in
        let less : Shrinks given.data_of s b moved.0 = elim (detach_cases (closed given) s a b moved.0 moved.1) [ inl binds ↦ let one = binds.by_dictionary in absurd (cc) | inr less ↦ less ] in (
          moved.0,
          step s moved.0 moved.1,
          moved.2,
          λ d known lasts. (d, telling s moved.0 d (step s moved.0 moved.1), fewer given.data_of old new m keys s moved.0 fits moved.2 d known b less),
        );
    lasts = follows.lasts;
  }

module _ {K V W R : Type 0} (given : JoinedGiven K W R) (old new : Content V) (m : Pairs W) (keys : List K) (ok : IsContent given.reuses old) where
  abbrev Plainly : JoinedCommand V W → JoinedReply K V W R → List K → Type 0
  Plainly c r keys' = JoinFollows given.data_of (JoinedStep given) (DictionaryStep given) old m keys c r new m keys'

  abbrev Detaching : JoinedDetachCommand V W → JoinedReply K V W R → Type 0
  Detaching c r = JoinFollows given.data_of (JoinedDetachStep given) (DetachDictionaryStep given) old m keys c r new m keys

  pub inserts : IsContent given.reuses new → (key : K) (v : V) → Inserts old (given.data_of key) v new → Plainly (command.Insert v) (reply.Key key) (keys ++ key ∷ [])
  inserts new_ok key v i =
      let follows = (first.inserts (closed given) old new ok new_ok key v i).follows in
      record {
        step = λ s fits.
            let moved = follows.step s fits in (
              moved.0,
              ((moved.1, refl), refl),
              moved.2,
              λ d known lasts. (
                d,
                record { steps = ((moved.1, refl), refl); by_dictionary = tt; notes = refl },
                one_more given.data_of old new m keys s moved.0 fits moved.2 d known key v moved.1.1 moved.1.2 lasts,
              ),
            );
        lasts = follows.lasts;
      }

  module _ (c : JoinedCommand V W) (r : JoinedReply K V W R) (a : Command K V) (b : Reply K V (Unit {0}) (Unit {0})) where
    by_plain : reply_keys given.data_of b ≡ [] → Served first_step.Step Plain (closed given) old a b new
        → ((s t : State V) → first_step.Step (closed given) s a b t → JoinedStep given (joined s m keys) c r (joined t m keys))
        → ((s : State V) (d : Dictionary W) → RepliesByDictionary given (joined s m keys) d c r × (d ≡ noted given keys d c r)) → Plainly c r keys
    by_plain none served step telling = quiet given old new m keys (JoinedStep given) (DictionaryStep given) c r (Plain a) b none (record { step = served.follows.step; lasts = served.follows.lasts })
        step (λ s t d step. record { steps = step; by_dictionary = (telling s d).0; notes = (telling s d).1 })

  pub full : (v back : V) → Refuses old v (Full back) → Keeps old new → Plainly (command.Insert v) (reply.Full back) keys
  full v back r keeps = by_plain _ _ (Insert v) (first_reply.Full (Some back)) refl (first.full (closed given) old new ok v back r keeps) (λ s t step. ((step, refl), refl)) (λ s d. (tt, refl))

  pub no_memory : (v back : V) → Refuses old v (Memory back) → Keeps old new → Plainly (command.Insert v) (reply.Memory back) keys
  no_memory v back r keeps =
      by_plain _ _ (Insert v) (first_reply.Memory (Some back)) refl (first.no_memory (closed given) old new ok v back r keeps) (λ s t step. ((step, refl), refl)) (λ s d. (tt, refl))

  module _ (i : ℕ) (key : K) (told : Some key ≡ named keys i) where
    pub removed : (taken : Option V) → taken ≡ map.get old.live (given.data_of key) → OnSome taken (Removes old (given.data_of key) new) → IfNone taken (new ≡ old)
        → Plainly (command.Remove i) (reply.Taken taken) keys
    removed taken value some none = by_plain _ _ (Remove key) (first_reply.Taken taken) refl (first.removed (closed given) old new ok key taken value some none)
        (λ s t step. rw (← told) ((step, refl), refl)) (λ s d. (tt, refl))

    module _ (c : JoinedDetachCommand V W) (r : JoinedReply K V W R) (a : DetachCommand K V) (b : Reply K V (Unit {0}) (Unit {0})) where
      by_detaching : reply_keys given.data_of b ≡ [] → Served first_step.DetachStep (λ c. c) (closed given) old a b new
          → ((s t : State V) → first_step.DetachStep (closed given) s a b t → JoinedDetachStep given (joined s m keys) c r (joined t m keys))
          → ((s t : State V) (d : Dictionary W) → JoinedDetachStep given (joined s m keys) c r (joined t m keys)
          → DetachDictionaryStep given (told_by s m keys d) c r (told_by t m keys d)) → Detaching c r
      by_detaching none served step telling = quiet given old new m keys (JoinedDetachStep given) (DetachDictionaryStep given) c r a b none served.follows step telling

    pub detached : (taken : Option V) → taken ≡ map.get old.live (given.data_of key) → OnSome taken (Detaches old (given.data_of key) new) → IfNone taken (new ≡ old)
        → Detaching (detaching.Detach i) (reply.Taken taken)
    detached taken value some none = by_detaching _ _ (Detach key) (first_reply.Taken taken) refl (first.detached (closed given) old new ok key taken value some none)
        (λ s t step. rw (← told) ((step, refl), refl)) (λ s t d step. (step, refl))

    -- whatever a reattach returns
    pub reattach_served : (v : V) (r : Result (Unit {0}) (ReattachError V)) → OnOk r (Reattaches old (given.data_of key) v new)
        → IfErr r (RefusesReattach given.reuses old (given.data_of key) v) → MayGrow given.reuses old (IsErr r) new → Detaching (detaching.Reattach i v) (joined_reattach_reply_of r)
    reattach_served v (Ok done) does err valid = by_detaching _ _ (Reattach key v) first_reply.Done refl (first.reattached (closed given) old new ok key v does)
        (λ s t step. rw (← told) ((step, refl), refl)) (λ s t d step. (step, refl))
    reattach_served v (Err (again.NotDetached back)) does err valid =
        by_detaching _ _ (Reattach key v) (first_reply.NotDetached back) refl (first.not_detached (closed given) old new ok key v back err (valid.unchanged refl))
        (λ s t step. rw (← told) ((step, refl), refl)) (λ s t d step. (step, refl))
    reattach_served v (Err (again.Memory back)) does err valid =
        by_detaching _ _ (Reattach key v) (first_reply.Memory (Some back)) refl (first.reattaches_no_memory (closed given) old new ok key v back err (valid.unchanged refl))
        (λ s t step. rw (← told) ((step, refl), refl)) (λ s t d step. (step, refl))

-- the key of a number is in the list
named_one : {K : Type 0} (keys : List K) (i : ℕ) (k : K) → named keys i ≡ Some k → (j : ℕ) × slice_get keys j ≡ Some k
named_one keys zero k h = absurd (cc)
named_one keys (suc i) k h = (i, h)

-- calls of the secondary map, and of none

module _ {K V W R : Type 0} (given : JoinedGiven K W R) (old : Content V) (m : Pairs W) (keys : List K) (ok : IsContent given.reuses old) where
  stays_lasts : (n : ℕ) → Lasts (n + 1) old → Lasts n old
  stays_lasts = (keeps given.reuses old old ok (first.keeps_itself old)).lasts

  module _ {C : Type 0} (Machine : Joined K V W → C → JoinedReply K V W R → Joined K V W → Type 0)
      (Telling : WithDictionary K V W → C → JoinedReply K V W R → WithDictionary K V W → Type 0)
      (c : C) (r : JoinedReply K V W R) where
    -- neither map changes
    silent : ((s : State V) → Machine (joined s m keys) c r (joined s m keys))
        → ((s : State V) (d : Dictionary W) → Fits s old → Known given.data_of s d old m keys → Machine (joined s m keys) c r (joined s m keys)
        → Telling (told_by s m keys d) c r (told_by s m keys d)) → JoinFollows given.data_of Machine Telling old m keys c r old m keys
    silent step telling = record {
      step = λ s fits. (s, step s, fits, λ d known lasts. (d, telling s d fits known (step s), known));
      lasts = stays_lasts;
    }

  abbrev Second : JoinedCommand V W → JoinedReply K V W R → Pairs W → Type 0
  Second c r m' = JoinFollows given.data_of (JoinedStep given) (DictionaryStep given) old m keys c r old m' keys

  -- nor does the dictionary, which tells nothing
  plainly : (c : JoinedCommand V W) (r : JoinedReply K V W R) → ((s : State V) → JoinedStep given (joined s m keys) c r (joined s m keys))
      → ((s : State V) (d : Dictionary W) → RepliesByDictionary given (joined s m keys) d c r × (d ≡ noted given keys d c r)) → Second c r m
  plainly c r step telling = silent (JoinedStep given) (DictionaryStep given) c r step (λ s d fits known step. record { steps = step; by_dictionary = (telling s d).0; notes = (telling s d).1 })

  -- the secondary map changes
  turns : (m' : Pairs W) (c : JoinedCommand V W) (r : JoinedReply K V W R) (after : Dictionary W → Dictionary W) → ((s : State V) → JoinedStep given (joined s m keys) c r (joined s m' keys))
      → ((s : State V) (d : Dictionary W) → Fits s old → Known given.data_of s d old m keys → Lasts (2 ^ 31) old
      → RepliesByDictionary given (joined s m keys) d c r × (after d ≡ noted given keys d c r) × Known given.data_of s (after d) old m' keys) → Second c r m'
  turns m' c r after step telling = record {
    step = λ s fits. (s, step s, fits, λ d known lasts. let told = telling s d fits known lasts in (after d, record { steps = step s; by_dictionary = told.0; notes = told.1 }, told.2));
    lasts = stays_lasts;
  }

  module _ (i : ℕ) (key : K) (told : Some key ≡ named keys i) where
    abbrev at : Key
    at = given.data_of key

    module _ (s : State V) (d : Dictionary W) (fits : Fits s old) (known : Known given.data_of s d old m keys) where
      heard : IsIssued s at
      heard = let one = named_one keys i key (sym told) in known.answered one.0 key one.1

      -- if the key of a number is live or detached, the dictionary has what it finds
      agrees : (k : K) → named keys i ≡ Some k → StandsIn s (given.data_of k) → get m at ≡ map.get d (given.data_of k)
      agrees k is held = ap (λ q. get m (given.data_of q)) (same_Some key k (told ∙ is)) ∙ known.agree (given.data_of k) (stands_of s old fits (given.data_of k) held)

    pub puts_step : (w : W) (before : Option W) → before ≡ get m at → Second (command.Put i w) (reply.Old before) (put m at w)
    puts_step w before was = turns (put m at w) _ _ (λ d. map.insert d at w) (λ s. rw (← told) ((was, refl), refl, refl)) (λ s d fits known lasts. (
      λ k h held. was ∙ agrees s d fits known k h held,
      rw (← told) refl,
      puts given.data_of given.reuses old ok m keys s fits d known at (heard s d fits known) w lasts,
    ))

    pub takes_step : (taken : Option W) → taken ≡ get m at → Second (command.Take i) (reply.TakenSecond taken) (remove m at)
    takes_step taken was = turns (remove m at) _ _ (λ d. map.remove d at) (λ s. rw (← told) ((was, refl), refl, refl)) (λ s d fits known lasts. (
      λ k h held. was ∙ agrees s d fits known k h held,
      rw (← told) refl,
      takes given.data_of given.reuses old ok m keys s fits d known at (heard s d fits known),
    ))

    pub no_room : (w back : W) → RefusesPut m at w back → Second (command.Put i w) (reply.NoRoom back) m
    no_room w back lacks = plainly _ _ (λ s. rw (← told) ((lacks, refl), refl, refl)) (λ s d. (tt, refl))

    pub looks : (found : Option W) (looked : Option R) → found ≡ get m at → LooksAt given.looks found looked → Second (command.Look i) (reply.Looked looked) m
    looks found looked is saw = silent (JoinedStep given) (DictionaryStep given) _ _ (λ s. rw (← told) ((rw is at saw, refl), refl, refl)) (λ s d fits known step. record {
      steps = step;
      by_dictionary = λ k h held. rw (is ∙ agrees s d fits known k h held) at saw;
      notes = refl;
    })

  module _ (i : ℕ) (told : None ≡ named keys i) where
    pub removes_no_key : Second (command.Remove i) reply.NoKey m
    removes_no_key = plainly _ _ (λ s. rw (← told) refl) (λ s d. (tt, refl))

    pub puts_no_key : (w : W) → Second (command.Put i w) (reply.NoKeySecond w) m
    puts_no_key w = plainly _ _ (λ s. rw (← told) (refl, refl)) (λ s d. (tt, refl))

    pub looks_no_key : Second (command.Look i) reply.NoKey m
    looks_no_key = plainly _ _ (λ s. rw (← told) refl) (λ s d. (tt, refl))

    pub takes_no_key : Second (command.Take i) reply.NoKey m
    takes_no_key = plainly _ _ (λ s. rw (← told) refl) (λ s d. (tt, refl))

    abbrev Detached : JoinedDetachCommand V W → JoinedReply K V W R → Type 0
    Detached c r = JoinFollows given.data_of (JoinedDetachStep given) (DetachDictionaryStep given) old m keys c r old m keys

    pub detaches_no_key : Detached (detaching.Detach i) reply.NoKey
    detaches_no_key = silent (JoinedDetachStep given) (DetachDictionaryStep given) _ _ (λ s. rw (← told) refl) (λ s d fits known step. (step, refl))

    pub reattaches_no_key : (v : V) → Detached (detaching.Reattach i v) (reply.NoKeyFirst v)
    reattaches_no_key v = silent (JoinedDetachStep given) (DetachDictionaryStep given) _ _ (λ s. rw (← told) (refl, refl)) (λ s d fits known step. (step, refl))
