-- A removed key is found by no later command, by positions.
-- For callers.
use Rattle.std.proofs.Common.{◌≡◌, ℕ, zero, suc, ◌+◌, ◌-◌, ◌<◌, List, ◌∷◌, length, slice_get, Some, None, Option, option_map, true, refl, ◌∙◌, arith, map as list_map}
use Rattle.std.proofs.Common.{[], sym, ap}
use Rattle.std.proofs.lemmas.Option.{slice_get-map}
use Rattle.slotmap_core.specs.Law.{RemovedForGood, GoneForGood, ShowsLive, ShowsNotLive, RemovesKey, LeavesAttached, FindsNothing}
use Rattle.slotmap_core.specs.{Key.Key, Key.key_cmp, JoinedLaw.JoinedRemovedForGood, JoinedLaw.JoinedFindsNothing}
use Rattle.slotmap_core.specs.declared.commands.{DetachCommand.DetachCommand, Command.Command, Reply.Reply}
use Rattle.slotmap_core.specs.declared.joined.{JoinedDetachCommand.JoinedDetachCommand, JoinedReply.JoinedReply}
use Rattle.slotmap_core.proofs.General.Positions.{split_at, split_at_two, stands_between, stands_after, stands_past, zipped_at, zipped_by_positions}
use Rattle.slotmap_core.proofs.General.{KeyLemmas.keys_total, KeyLemmas.exact_keys, Maps.in_inserted}
use Rattle.std.specs.FinMap as map
use Rattle.slotmap_core.specs.declared.commands.Command.TheVariants as command
use Rattle.slotmap_core.specs.declared.commands.DetachCommand.TheVariants as detaching
use Rattle.slotmap_core.specs.declared.commands.Reply.TheVariants as reply
use Rattle.slotmap_core.specs.declared.joined.JoinedCommand.TheVariants as joined
use Rattle.slotmap_core.specs.declared.joined.JoinedDetachCommand.TheVariants as joined_detaching
use Rattle.slotmap_core.specs.declared.joined.JoinedReply.TheVariants as joined_reply

module _ {K V R E C : Type 0} (data_of : K → Key) (of : C → DetachCommand K V) (commands : List C) (replies : List (Reply K V R E)) (k : Key) where
  -- once the command at one position removed k, the command at a later one doesn't find it
  pub removed_not_found : (i j : ℕ) (c d : C) (r answer : Reply K V R E) → RemovedForGood data_of of commands replies → i < j
      → slice_get commands i ≡ Some c → slice_get replies i ≡ Some r → RemovesKey data_of k (of c) r
      → slice_get commands j ≡ Some d → slice_get replies j ≡ Some answer → FindsNothing data_of k (of d) answer
  removed_not_found i j c d r answer law less is_c is_r removes is_d is_answer =
      let asked = split_at commands i c is_c in
      let told = split_at replies i r is_r in
      let at : i + 1 + (j - (i + 1)) ≡ j = omega arith in
      zipped_at _ asked.after told.after (j - (i + 1)) d answer (law asked.before asked.after told.before told.after k c r (asked.at ∙ sym told.at) asked.is told.is removes)
      (stands_after asked (j - (i + 1)) ∙ ap (slice_get commands) at ∙ is_d) (stands_after told (j - (i + 1)) ∙ ap (slice_get replies) at ∙ is_answer)

  -- between the two positions no Detach of k returns a value
  abbrev pub StaysAttached : ℕ → ℕ → Type 0
  StaysAttached i j = (n : ℕ) (c : C) (r : Reply K V R E) → i < n → n < j → slice_get commands n ≡ Some c → slice_get replies n ≡ Some r → LeavesAttached data_of k (of c) r

  -- Once a reply at one position showed that k is live, and a later one that it no longer is, the command at a later position doesn't find it
  pub gone_not_found : (h i j : ℕ) (b c d : C) (q r answer : Reply K V R E) → GoneForGood data_of of commands replies → h < i → i < j → StaysAttached h i
      → slice_get commands h ≡ Some b → slice_get replies h ≡ Some q → ShowsLive data_of k (of b) q
      → slice_get commands i ≡ Some c → slice_get replies i ≡ Some r → ShowsNotLive data_of k (of c) r
      → slice_get commands j ≡ Some d → slice_get replies j ≡ Some answer → FindsNothing data_of k (of d) answer
  gone_not_found h i j b c d q r answer law earlier less stays is_b is_q live is_c is_r gone is_d is_answer =
      let asked = split_at_two commands h i b c earlier is_b is_c in
      let told = split_at_two replies h i q r earlier is_q is_r in
      let long : length asked.between ≡ length told.between = omega (arith, asked.apart, told.apart) in
      let attached = zipped_by_positions (λ other said. LeavesAttached data_of k (of other) said) asked.between told.between long (λ n x y inside is_x is_y.
      stays (h + 1 + n) x y (omega arith) (omega (arith, asked.apart)) (stands_between asked n x is_x) (stands_between told n y is_y)) in
      let at : i + 1 + (j - (i + 1)) ≡ j = omega arith in
      zipped_at _ asked.after told.after (j - (i + 1)) d answer
      (law asked.before asked.between asked.after told.before told.between told.after k b c q r (asked.at ∙ sym told.at) attached asked.is told.is live gone)
      (stands_past asked (j - (i + 1)) ∙ ap (slice_get commands) at ∙ is_d) (stands_past told (j - (i + 1)) ∙ ap (slice_get replies) at ∙ is_answer)

-- no plain command detaches a key
pub never_detached : {K V R E : Type 0} (data_of : K → Key) (commands : List (Command K V)) (replies : List (Reply K V R E)) (k : Key) (i j : ℕ)
    → StaysAttached data_of detaching.Plain commands replies k i j
never_detached data_of commands replies k i j n c r more less is_c is_r = tt

-- once the Remove of a key at one position returned a value, a Get of it at a later one finds nothing (`plain` makes a command of the list from a plain one)
pub removed_finds_nothing : {K V R E C : Type 0} (data_of : K → Key) (of : C → DetachCommand K V) (plain : Command K V → C) → ((c : Command K V) → of (plain c) ≡ detaching.Plain c)
    → (commands : List C) (replies : List (Reply K V R E)) (i j : ℕ) (key : K) (v : V) (looked : Option R) → RemovedForGood data_of of commands replies → i < j
    → slice_get commands i ≡ Some (plain (command.Remove key)) → slice_get commands j ≡ Some (plain (command.Get key))
    → slice_get replies i ≡ Some (reply.Taken (Some v)) → slice_get replies j ≡ Some (reply.Looked looked) → looked ≡ None
removed_finds_nothing data_of of plain is commands replies i j key v looked law less removes gets taken seen =
    let none = removed_not_found data_of of commands replies (data_of key) i j _ _ _ (reply.Looked looked) law less removes taken (rw (is (command.Remove key)) refl) gets seen in
    let found : reply.Looked looked ≡ reply.Looked None = (rw (is (command.Get key)) at none) refl in
    cc

in_entries : {V : Type 0} (es : List (Key × V)) (p : ℕ) (e : Key × V) → slice_get es p ≡ Some e → map.contains_key (map.from_entries {R = key_cmp} es) e.0 ≡ true
in_entries [] p e h = absurd (cc)
in_entries (x ∷ es) zero e h = let is : x ≡ e = cc in rw (← is) (in_inserted keys_total exact_keys (map.from_entries es) x.0 x.1)
in_entries {V} (x ∷ es) (suc p) e h = let rest = in_entries es p e h in grind (arith, rest, map.get-insert {X = V} keys_total (map.from_entries es) x.0 x.1 e.0)

-- a Drain removes each key that it lists: this is `RemovesKey` of such a reply
pub drained_removes : {K V : Type 0} (data_of : K → Key) (pairs : List (K × V)) (p : ℕ) (key : K) (v : V) → slice_get pairs p ≡ Some (key, v)
    → map.contains_key (map.from_entries {R = key_cmp} (list_map (λ e. (data_of e.0, e.1)) pairs)) (data_of key) ≡ true
drained_removes data_of pairs p key v h =
    in_entries (list_map (λ e. (data_of e.0, e.1)) pairs) p (data_of key, v) (slice_get-map (λ e. (data_of e.0, e.1)) pairs p ∙ ap (option_map (λ e. (data_of e.0, e.1))) h)

-- once the joined Remove of a number at one position returned a value, the command at a later one doesn't find that number's key
pub joined_removed_not_found : {K V W R C : Type 0} (of : C → JoinedDetachCommand V W) (commands : List C) (replies : List (JoinedReply K V W R)) (i j n : ℕ) (c d : C) (v : V)
    (answer : JoinedReply K V W R)
    → JoinedRemovedForGood of commands replies → i < j → of c ≡ joined_detaching.Plain (joined.Remove n)
    → slice_get commands i ≡ Some c → slice_get replies i ≡ Some (joined_reply.Taken (Some v))
    → slice_get commands j ≡ Some d → slice_get replies j ≡ Some answer → JoinedFindsNothing n (of d) answer
joined_removed_not_found of commands replies i j n c d v answer law less removes is_c taken is_d is_answer =
    let asked = split_at commands i c is_c in
    let told = split_at replies i _ taken in
    let at : i + 1 + (j - (i + 1)) ≡ j = omega arith in
    zipped_at _ asked.after told.after (j - (i + 1)) d answer (law asked.before asked.after told.before told.after n c v (asked.at ∙ sym told.at) removes asked.is told.is)
    (stands_after asked (j - (i + 1)) ∙ ap (slice_get commands) at ∙ is_d) (stands_after told (j - (i + 1)) ∙ ap (slice_get replies) at ∙ is_answer)
