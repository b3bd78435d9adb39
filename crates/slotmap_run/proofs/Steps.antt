-- What the calls of a map ensure is a step of the machine.
use Rattle.std.proofs.Common.{◌≡◌, ◌≢◌, ◌≤◌, ◌∷◌, ◌+◌, ◌++◌}
use Rattle.std.specs.FinMap as map
use Rattle.std.specs.FinSet as set
use Rattle.slotmap_run.proofs.Common.{MatchOption, DetachCommand, ReattachError, insert_reply_of, insert_with_reply_of, reserve_reply_of, reattach_reply_of}
use Rattle.slotmap_run.proofs.Common.{list_map, IsSomeAnd, Command, Reply, Full, Memory, Served, IsLifo}
use Rattle.slotmap_core.specs.Words.{Bor, MutBor}
use Rattle.slotmap_core.proofs.Common.{IsKeyListing, RefusesWith, RefusesCapacity, RefusesReattach, after_insert, MayLackMemory, MayLackRoom, stack_reply, after_command, retained_none, option_copied}
use Rattle.slotmap_core.proofs.Common.{IsContent, IsListing, Replaces, Detaches, Reattaches, with_value, MakesRoom, LacksRoom, RetainsBy, DetachStep, IsRefusal, reply_keys, Ok, ◌∙◌, retained_at}
use Rattle.slotmap_core.proofs.Common.{key_cmp, Content, IsLive, Inserts, Removes, Leaves, MayGrow, Refuses, CallsAt, RunGiven, Follows, IsBasic, Result, Option, is_some, none_of, false_of, OnSome}
use Rattle.slotmap_core.proofs.Common.{used, most, Keeps, Visit, State, Fresh, Step, Fits, Lifo, IfOk, OnOk, IfErr, OnErr, IsErr, IsOk, Some, None, Bool, false, refl, ap, subst, arith, IfNone, Global}
use Rattle.slotmap_core.proofs.Common.{Mut, Key, Err, sym, ℕ, List, [], Vec}
use Rattle.slotmap_core.specs.declared.errors.{InsertError.InsertError, TryInsertError.TryInsertError, ReserveError.ReserveError, OutOfMemory.OutOfMemory}
use Rattle.slotmap_run.proofs.Fits.{used_same, below, offer_fresh, inserts_fresh, inserts as inserts_moves}
use Rattle.slotmap_run.proofs.OtherSteps.{Moves, keeps, promises, replaces, detaches, reattaches, removes, leaves}
use Rattle.slotmap_run.proofs.Orders.{lifo_inserts, lifo_keeps, lifo_removes, lifo_detaches, lifo_reattaches}
use Rattle.slotmap_core.specs.Machine as machine
use Rattle.slotmap_core.specs.declared.commands.Command.TheVariants as command
use Rattle.slotmap_core.specs.declared.commands.DetachCommand.TheVariants as detaching
use Rattle.slotmap_core.specs.declared.commands.Reply.TheVariants as reply
use Rattle.slotmap_core.specs.declared.errors.TryInsertError.TheVariants as with_key
use Rattle.slotmap_core.specs.declared.errors.ReserveError.TheVariants as capacity
use Rattle.slotmap_core.specs.declared.errors.ReattachError.TheVariants as again

pub keeps_itself : {V : Type 0} (c : Content V) → Keeps c c
keeps_itself c = grind arith

keeps_same : {V : Type 0} (old new : Content V) → new ≡ old → Keeps old new
keeps_same old new same = grind arith

replaces_with : {V : Type 0} (old new : Content V) (k : Key) (v : V) → new ≡ with_value old k v → Replaces old k v new
replaces_with old new k v put = grind arith

module _ {K V R E : Type 0} (given : RunGiven K V R E) (old new : Content V) (ok : IsContent given.reuses old) where
  abbrev IsStep : Command K V → Reply K V R E → Type 0
  IsStep command reply = Served Step detaching.Plain given old command reply new

  abbrev IsDetachStep : DetachCommand K V → Reply K V R E → Type 0
  IsDetachStep command reply = Served DetachStep (λ command. command) given old command reply new

  -- a call that moves each state that fits is a step
  by : {C : Type 0} {Machine : State V → C → Reply K V R E → State V → Type 0} {c : C} {r : Reply K V R E} {after : State V → State V}
      → Moves after old new → ((s : State V) → Fits s old → Machine s c r (after s)) → Follows Machine old c r new
  by {after = after} moves step = record { step = λ s fits. (after s, step s fits, moves.fits s fits); lasts = moves.lasts }

  -- a command that isn't of the machine that reuses the slot freed last
  other : {c : Command K V} {r : Reply K V R E} → (IsBasic (detaching.Plain c) → ⊥) → Follows (Step given) old c r new → IsStep c r
  other not_basic follows = record { follows = follows; orders = λ l is basic told. absurd (not_basic basic) }

  stays : {c : Command K V} {r : Reply K V R E} → (IsBasic (detaching.Plain c) → ⊥) → Keeps old new → ((s : State V) → Fits s old → Step given s c r s) → IsStep c r
  stays not_basic kept step = other not_basic (by (keeps given.reuses old new ok kept) step)

  -- a command that fails
  refused : {c : Command K V} {r : Reply K V R E} → IsRefusal r → Keeps old new → ((s : State V) → Fits s old → Step given s c r s) → IsStep c r
  refused is kept step = record { follows = by (keeps given.reuses old new ok kept) step; orders = λ l lifo basic told. absurd (told is) }

  -- an insert binds a fresh key
  binds : {c : Command K V} {r : Reply K V R E} (key : K) (v : V) → IsContent given.reuses new → Inserts old (given.data_of key) v new
      → ((s : State V) → machine.in_use s ≢ most → Fresh s (given.data_of key) → Step given s c r (after_insert s (given.data_of key) v)) → Follows (Step given) old c r new
  binds key v new_ok i step =
      by (inserts_moves given.reuses old new ok (given.data_of key) v i new_ok)
      (λ s fits. step s (below s old fits i.below_limit) (inserts_fresh given.reuses s old ok fits new (given.data_of key) v i new_ok))

  pub inserts : IsContent given.reuses new → (key : K) (v : V) → Inserts old (given.data_of key) v new → IsStep (command.Insert v) (reply.Key key)
  inserts new_ok key v i = record {
    follows = binds key v new_ok i (λ s below fresh. (below, fresh, refl));
    orders = λ l is basic told. let both = lifo_inserts given.reuses old new ok l is (given.data_of key) v i in (ap (λ k. k ∷ []) both.0, both.1);
  }

  pub full : (v back : V) → Refuses old v (Full back) → Keeps old new → IsStep (command.Insert v) (reply.Full (Some back))
  full v back r kept = refused tt kept (λ s fits. (used_same s old fits ∙ r.0, ap Some r.1, refl))

  -- if memory may run out for an insert, it may in the machine
  may_lack : LacksRoom old → (s : State V) → Fits s old → MayLackMemory given.reuses s
  may_lack r s fits = grind (arith, used_same s old fits, ok.reused)

  pub no_memory : (v back : V) → Refuses old v (Memory back) → Keeps old new → IsStep (command.Insert v) (reply.Memory (Some back))
  no_memory v back r kept = refused tt kept (λ s fits. (may_lack r.0 s fits, ap Some r.1, refl))

  -- whatever an insert returns
  pub inserted : (v : V) (r : Result K (InsertError V)) → MayGrow given.reuses old (IsErr r) new
      → IfOk r (λ key. Inserts old (given.data_of key) v new) → IfErr r (Refuses old v) → IsStep (command.Insert v) (insert_reply_of r)
  inserted v (Ok key) valid ok err = inserts valid.after key v ok
  inserted v (Err (Full back)) valid ok err = full v back err (valid.unchanged refl)
  inserted v (Err (Memory back)) valid ok err = no_memory v back err (valid.unchanged refl)

  -- whatever an insert of what `make` returns does
  pub inserted_with : (r : Result K (TryInsertError E)) → MayGrow given.reuses old (IsErr r) new
      → IfOk r (λ key. (v : V) × given.makes key (Ok v) × Inserts old (given.data_of key) v new) → IfErr r (RefusesWith given.data_of given.makes old)
      → IsStep command.InsertWith (insert_with_reply_of r)
  inserted_with (Ok key) valid ok err = other (λ b. b) (binds key ok.0 valid.after ok.2 (λ s below fresh. (below, fresh, (ok.0, ok.1, refl))))
  inserted_with (Err with_key.Full) valid ok err = stays (λ b. b) (valid.unchanged refl) (λ s fits. (used_same s old fits ∙ err, refl, refl))
  inserted_with (Err with_key.Memory) valid ok err = stays (λ b. b) (valid.unchanged refl) (λ s fits. (may_lack err s fits, refl, refl))
  inserted_with (Err (with_key.Closure e)) valid none err =
      stays (λ b. b) (valid.unchanged refl) (λ s fits. (below s old fits err.0, (err.1.0, rw err.1.1 (offer_fresh given.reuses s old ok fits err.0), err.1.2), refl))

  -- whatever a look-up finds, if the reply may be told of it
  pub looked : (key : K) (found : Option (Bor V)) (told : Option R) (P : Bor V → R → Type 0) → ((x : Bor V) (r : R) → P x r → given.looks x.now r) → Keeps old new
      → option_copied found ≡ map.get old.live (given.data_of key) → MatchOption found (told ≡ None) (λ x. IsSomeAnd told (P x)) → IsStep (command.Get key) (reply.Looked told)
  looked key found told P says kept is shown = grind (arith, stays)

  pub contains : (key : K) (is : Bool) → Keeps old new → is ≡ map.contains_key old.live (given.data_of key) → IsStep (command.Contains key) (reply.Flag is)
  contains key is kept found = stays (λ b. b) kept (λ s fits. (rw fits.live found, refl))

  pub counts : (n : ℕ) → Keeps old new → n ≡ map.len old.live → IsStep command.Len (reply.Len n)
  counts n kept is = stays (λ b. b) kept (λ s fits. (rw fits.live is, refl))

  pub replaced : (key : K) (v : V) (r : Result V V) → IfOk r (λ before. map.get old.live (given.data_of key) ≡ Some before) → OnOk r (new ≡ with_value old (given.data_of key) v)
      → IfErr r (λ back. map.contains_key old.live (given.data_of key) ≡ false × back ≡ v) → OnErr r (new ≡ old) → IsStep (command.Replace key v) (reply.Put r)
  replaced key v (Ok before) found put none same =
      other (λ b. b) (by (replaces given.reuses old new ok (given.data_of key) v (ap is_some found) (replaces_with old new (given.data_of key) v put)) (λ s fits. (rw fits.live found, refl)))
  replaced key v (Err back) found put none same = stays (λ b. b) (keeps_same old new same) (λ s fits. (rw fits.live (none_of _ none.0), none.1, refl))

  -- a command that leaves the machine that reuses the slot freed last as it is
  unmoved : {C : Type 0} {Machine : RunGiven K V R E → State V → C → Reply K V R E → State V → Type 0} {of : C → DetachCommand K V} {c : C} {r : Reply K V R E}
      → Keeps old new → ((s : State V) → Fits s old → Machine given s c r s) → ((l : Lifo) → reply_keys given.data_of r ≡ stack_reply given.data_of l (of c))
      → ((l : Lifo) → IsLifo l old → after_command given.data_of l (of c) ≡ l) → Served Machine of given old c r new
  unmoved kept step told same = record {
    follows = by (keeps given.reuses old new ok kept) step;
    orders = λ l lifo basic _. (told l, rw (same l lifo) (lifo_keeps given.reuses old new ok l lifo kept));
  }

  -- a command that takes the value of a live key, and changes nothing where the key isn't live
  takes : {C : Type 0} {Machine : RunGiven K V R E → State V → C → Reply K V R E → State V → Type 0} {of : C → DetachCommand K V} {c : C} {after : State V → State V} {Does : Type 0}
      → (key : K) (taken : Option V) → taken ≡ map.get old.live (given.data_of key) → OnSome taken Does → IfNone taken (new ≡ old)
      → (IsLive old (given.data_of key) → Does → Moves after old new)
      → (IsLive old (given.data_of key) → Does → (l : Lifo) → IsLifo l old → IsLifo (after_command given.data_of l (of c)) new)
      → ((s : State V) (v : V) → map.get s.live (given.data_of key) ≡ Some v → Machine given s c (reply.Taken (Some v)) (after s))
      → ((s : State V) → map.get s.live (given.data_of key) ≡ None → Machine given s c (reply.Taken None) s)
      → ((l : Lifo) → [] ≡ stack_reply given.data_of l (of c)) → ((l : Lifo) → set.contains l.live (given.data_of key) ≡ false → after_command given.data_of l (of c) ≡ l)
      → Served Machine of given old c (reply.Taken taken) new
  takes key (Some v) is some none moves orders found lacks quiet same = record {
    follows = by (moves (ap is_some (sym is)) some) (λ s fits. found s v (rw fits.live (sym is)));
    orders = λ l lifo basic told. (quiet l, orders (ap is_some (sym is)) some l lifo);
  }
  takes key None is some none moves orders found lacks quiet same =
      unmoved (keeps_same old new none) (λ s fits. lacks s (rw fits.live (sym is))) quiet (λ l lifo. same l (lifo.live (given.data_of key) ∙ ap is_some (sym is)))

  pub removed : (key : K) (taken : Option V) → taken ≡ map.get old.live (given.data_of key) → OnSome taken (Removes old (given.data_of key) new)
      → IfNone taken (new ≡ old) → IsStep (command.Remove key) (reply.Taken taken)
  removed key taken is some none = takes key taken is some none (removes given.reuses old new ok (given.data_of key))
      (λ live some l lifo. lifo_removes given.reuses old new ok l lifo (given.data_of key) live some) (λ s v is. (is, refl)) (λ s is. (is, refl)) (λ l. refl) (λ l none. rw none refl)

  may_lack_room : (m : ℕ) → used old + m ≤ most → (m ≤ old.room → ⊥) → (s : State V) → Fits s old → MayLackRoom given.reuses s m
  may_lack_room m within lacks s fits = grind (arith, used_same s old fits, ok.reused)

  -- whatever a reserve returns
  pub reserved : (m : ℕ) (r : Result (Unit {0}) ReserveError) → MakesRoom given.reuses old m (IsOk r) new → IfErr r (RefusesCapacity (used old + m))
      → IsStep (command.Reserve m) (reserve_reply_of r)
  reserved m (Ok done) made err = other (λ b. b) (by (promises given.reuses old new ok made.keeps m (made.room refl)) (λ s fits. (rw (used_same s old fits) (made.fits refl), refl)))
  reserved m (Err capacity.TooGreat) made err = stays (λ b. b) made.keeps (λ s fits. (rw (used_same s old fits) err, refl))
  reserved m (Err capacity.Memory) made err = stays (λ b. b) made.keeps (λ s fits. (may_lack_room m err (λ room. let done = made.succeeds room in absurd (cc)) s fits, refl, refl))

  -- some keys are removed, and nothing else of the state changes
  left : {c : Command K V} {r : Reply K V R E} → (IsBasic (detaching.Plain c) → ⊥) → Leaves old new
      → ((s : State V) → s.live ≡ old.live → Step given s c r (record s { live = new.live })) → IsStep c r
  left not_basic l step = other not_basic (by (leaves given.reuses old new ok l) (λ s fits. step s fits.live))

  pub clears : new.live ≡ map.empty → Leaves old new → IsStep command.Clear reply.Done
  clears empty l = left (λ b. b) l (λ s live. ap (λ (m : map.FinMap key_cmp V). record s { live = m }) empty)

  -- whatever a drain into a new vector returns
  pub drained : (done : Result (Unit {0}) OutOfMemory) (first out : Vec (K × V) Global) (r : Reply K V R E) → first.items ≡ []
      → OnOk done (r ≡ reply.Drained out) → OnErr done (r ≡ reply.Memory None)
      → OnOk done ((pairs : List (K × V)) × (out.items ≡ first.items ++ pairs) × IsListing old.live (list_map (λ p. (given.data_of p.0, p.1)) pairs))
      → OnOk done (new.live ≡ map.empty) → OnOk done (Leaves old new) → OnErr done ((new ≡ old) × (out.items ≡ first.items))
      → IsStep command.Drain r
  drained (Ok done) first out r none told refusal all empty l unchanged = grind (arith, left)
  drained (Err e) first out r none told refusal all empty l unchanged = rw refusal (stays (λ b. b) (keeps_same old new unchanged.0) (λ s fits. (refl, refl)))

  -- whatever listing the keys in a new vector returns
  pub listed : (done : Result (Unit {0}) OutOfMemory) (first out : Vec K Global) (r : Reply K V R E) → first.items ≡ [] → OnOk done (r ≡ reply.Keys out)
      → OnErr done (r ≡ reply.Memory None)
      → OnOk done ((keys : List K) × (out.items ≡ first.items ++ keys) × IsKeyListing old.live (list_map given.data_of keys)) → Keeps old new → IsStep command.Keys r
  listed done first out r none told refusal all kept = grind (arith, stays)

  module _ {F : Type 0} (g : Mut F (K × (MutBor V × Unit {0})) (Bool × (MutBor V × Unit {0}))) (f : F) (Is : F → Type 0)
      (says : (f : F) (x : Visit K V) (f' : F) → Is f → CallsAt g f x f' → Is f' × given.keeps x.key x.before x.after x.stays) (is : Is f)
      (r : RetainsBy g given.data_of f old.live new.live) where
    pub retains : Leaves old new → IsStep command.Retain reply.Done
    retains l = left (λ b. b) l (λ s live. record {
      each = λ q v found.
          let at = retained_at g given.data_of Is (λ x. given.keeps x.key x.before x.after x.stays) (λ f f' x. says f x f') is r q v (rw (← live) found) in
          (at.0.key, at.0.after, at.0.stays, at.2, subst (λ (b : V). given.keeps at.0.key b at.0.after at.0.stays) at.3 at.1, at.4);
      no_more = λ q none. retained_none g given.data_of r q (rw (← live) none);
      rest = refl;
    })

  -- a step of the plain machine is one of the machine that detaches
  pub plain : (c : Command K V) (r : Reply K V R E) → IsStep c r → IsDetachStep (detaching.Plain c) r
  plain c r f = record { follows = record { step = f.follows.step; lasts = f.follows.lasts }; orders = f.orders }

  pub detached : (key : K) (taken : Option V) → taken ≡ map.get old.live (given.data_of key) → OnSome taken (Detaches old (given.data_of key) new)
      → IfNone taken (new ≡ old) → IsDetachStep (detaching.Detach key) (reply.Taken taken)
  detached key taken is some none = takes key taken is some none (detaches given.reuses old new ok (given.data_of key))
      (λ live some l lifo. lifo_detaches given.reuses old new ok l lifo (given.data_of key) live some) (λ s v is. (is, refl)) (λ s is. (is, refl)) (λ l. refl) (λ l none. rw none refl)

  pub reattached : (key : K) (v : V) → Reattaches old (given.data_of key) v new → IsDetachStep (detaching.Reattach key v) reply.Done
  reattached key v r = record {
    follows = by (reattaches given.reuses old new ok (given.data_of key) v r) (λ s fits. (rw fits.detached r.was_detached, refl));
    orders = λ l lifo basic told. (refl, lifo_reattaches given.reuses old new ok l lifo (given.data_of key) v r);
  }

  pub not_detached : (key : K) (v back : V) → RefusesReattach given.reuses old (given.data_of key) v (again.NotDetached back) → Keeps old new
      → IsDetachStep (detaching.Reattach key v) (reply.NotDetached back)
  not_detached key v back r kept = unmoved kept (λ s fits. (rw fits.detached (false_of _ r.0), r.1, refl)) (λ l. refl)
      (λ l lifo. rw (ap (λ (d : set.FinSet key_cmp). set.contains d (given.data_of key)) lifo.detached ∙ false_of _ r.0) refl)

  pub reattaches_no_memory : (key : K) (v back : V) → RefusesReattach given.reuses old (given.data_of key) v (again.Memory back) → Keeps old new
      → IsDetachStep (detaching.Reattach key v) (reply.Memory (Some back))
  reattaches_no_memory key v back r kept = record {
    follows = by (keeps given.reuses old new ok kept) (λ s fits. (r.0, rw fits.detached r.1, (let promised = fits.promised in let room = r.2 in omega arith), ap Some r.3, refl));
    orders = λ l lifo basic told. absurd (told tt);
  }

  -- whatever a reattach returns
  pub reattach_served : (key : K) (v : V) (r : Result (Unit {0}) (ReattachError V)) → OnOk r (Reattaches old (given.data_of key) v new)
      → IfErr r (RefusesReattach given.reuses old (given.data_of key) v) → MayGrow given.reuses old (IsErr r) new
      → IsDetachStep (detaching.Reattach key v) (reattach_reply_of r)
  reattach_served key v (Ok done) ok err valid = reattached key v ok
  reattach_served key v (Err (again.NotDetached back)) ok err valid = not_detached key v back err (valid.unchanged refl)
  reattach_served key v (Err (again.Memory back)) ok err valid = reattaches_no_memory key v back err (valid.unchanged refl)
