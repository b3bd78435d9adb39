-- Two joined maps as their user sees them: a plain dictionary, with no ages or indices.
use Rattle.std.specs.Prelude.{◌≡◌, ◌^◌, ◌<◌, Option, Some, None, List, [], length}
use Rattle.std.specs.FinMap as map
use Rattle.slotmap_core.specs.Key.{Key, key_cmp}
use Rattle.slotmap_core.specs.Content.{Content, places}
use Rattle.slotmap_core.specs.Machine.{StandsIn, empty_state}
use Rattle.slotmap_core.specs.Run.{Run}
use Rattle.slotmap_core.specs.Fit.{Fits}
use Rattle.slotmap_core.specs.Secondary.{Pairs}
use Rattle.slotmap_core.specs.SecondaryStep.{LooksAt}
use Rattle.slotmap_core.specs.Joined.{JoinedGiven, Joined, named, JoinedStep, JoinedDetachStep}
use Rattle.slotmap_core.specs.declared.joined.JoinedCommand.{JoinedCommand}
use Rattle.slotmap_core.specs.declared.joined.JoinedCommand.TheVariants as command
use Rattle.slotmap_core.specs.declared.joined.JoinedDetachCommand.{JoinedDetachCommand}
use Rattle.slotmap_core.specs.declared.joined.JoinedDetachCommand.TheVariants as detaching
use Rattle.slotmap_core.specs.declared.joined.JoinedReply.{JoinedReply}
use Rattle.slotmap_core.specs.declared.joined.JoinedReply.TheVariants as reply

-- under each key the value that was last put under exactly this key, and not taken since
abbrev pub Dictionary : Type 0 → Type 0
Dictionary W = map.FinMap key_cmp W

-- the states of both maps' machines, and the dictionary
pub record WithDictionary (K V W : Type 0) : Type 0 where
  pub joined : Joined K V W
  pub dictionary : Dictionary W

module _ {K W : Type 0} (data_of : K → Key) where
  abbrev pub after_put : Dictionary W → Option K → W → Dictionary W
  after_put d (Some k) w = map.insert d (data_of k) w
  after_put d None w = d

  abbrev pub after_take : Dictionary W → Option K → Dictionary W
  after_take d (Some k) = map.remove d (data_of k)
  after_take d None = d

module _ {K V W R : Type 0} (given : JoinedGiven K W R) where
  -- a put that had memory binds the key that it names to its value, a take removes that key, and nothing else changes
  abbrev pub noted : List K → Dictionary W → JoinedCommand V W → JoinedReply K V W R → Dictionary W
  noted keys d (command.Put n w) (reply.Old before) = after_put given.data_of d (named keys n) w
  noted keys d (command.Take n) (reply.TakenSecond taken) = after_take given.data_of d (named keys n)
  noted keys d _ _ = d

  -- the reply to a command on a live or detached key is the dictionary's
  abbrev pub RepliesByDictionary : Joined K V W → Dictionary W → JoinedCommand V W → JoinedReply K V W R → Type 0
  RepliesByDictionary s d (command.Put n w) (reply.Old before) = (k : K) → named s.keys n ≡ Some k → StandsIn s.primary (given.data_of k) → before ≡ map.get d (given.data_of k)
  RepliesByDictionary s d (command.Look n) (reply.Looked seen) =
      (k : K) → named s.keys n ≡ Some k → StandsIn s.primary (given.data_of k) → LooksAt given.looks (map.get d (given.data_of k)) seen
  RepliesByDictionary s d (command.Take n) (reply.TakenSecond taken) = (k : K) → named s.keys n ≡ Some k → StandsIn s.primary (given.data_of k) → taken ≡ map.get d (given.data_of k)
  RepliesByDictionary s d _ _ = Unit {0}

  -- a step of the two maps, told and noted by the dictionary
  pub record DictionaryStep (old : WithDictionary K V W) (c : JoinedCommand V W) (r : JoinedReply K V W R) (new : WithDictionary K V W) : Type 0 where
    pub steps : JoinedStep given old.joined c r new.joined
    pub by_dictionary : RepliesByDictionary old.joined old.dictionary c r
    pub notes : new.dictionary ≡ noted old.joined.keys old.dictionary c r

  -- the same for a primary map whose keys can be detached; that changes nothing in the dictionary
  abbrev pub DetachDictionaryStep : WithDictionary K V W → JoinedDetachCommand V W → JoinedReply K V W R → WithDictionary K V W → Type 0
  DetachDictionaryStep old (detaching.Plain c) r new = DictionaryStep old c r new
  DetachDictionaryStep old c r new = JoinedDetachStep given old.joined c r new.joined × (new.dictionary ≡ old.dictionary)

-- no slot was made, nothing was stored, and nothing was put under a key
abbrev pub unused : {K V W : Type 0} → WithDictionary K V W
unused = record { joined = record { primary = empty_state; secondary = map.empty; keys = [] }; dictionary = map.empty }

-- On two maps that were never used, the replies are a run that the dictionary tells. There have to be so few commands that no
-- version counts as older than one below it
abbrev pub RunsByDictionary : {K V W C R : Type 0} → (WithDictionary K V W → C → R → WithDictionary K V W → Type 0)
    → Content V → Pairs W → List C → List R → Content V → Pairs W → Type 0
RunsByDictionary {K} {V} {W} Step old_first old_second commands replies new_first new_second =
    places old_first ≡ 0 → old_second ≡ map.empty → length commands < 2 ^ 31
    → (t : WithDictionary K V W) × Run Step unused commands replies t × Fits t.joined.primary new_first × (t.joined.secondary ≡ new_second)
