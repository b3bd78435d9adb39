-- The words that callers' clauses cite, all in one module. Declares nothing.
pub use Rattle.slotmap_core.specs.Lifo.{IsBasic}
-- replies to commands, as a caller's clauses name them
pub use Rattle.slotmap_core.specs.declared.commands.Reply.TheVariants.{Key as KeyReply, Full as FullReply, Memory as MemoryReply, TooGreat as TooGreatReply, Failed as FailedReply}
pub use Rattle.slotmap_core.specs.declared.commands.Reply.TheVariants.{Looked as LookedReply, Flag as FlagReply, Put as PutReply, Taken as TakenReply, Done as DoneReply}
pub use Rattle.slotmap_core.specs.declared.commands.Reply.TheVariants.{Drained as DrainedReply, Keys as KeysReply, Len as LenReply, NotDetached as NotDetachedReply}
pub use Rattle.slotmap_core.specs.declared.joined.JoinedReply.TheVariants.{Key as JoinedKey, Full as JoinedFull, Memory as JoinedMemory, Taken as JoinedTaken, Old as JoinedOld, NoRoom as JoinedNoRoom}
pub use Rattle.slotmap_core.specs.declared.joined.JoinedReply.TheVariants.{Looked as JoinedLooked, TakenSecond as JoinedTakenSecond, Done as JoinedDone, NotDetached as JoinedNotDetached}
pub use Rattle.slotmap_core.specs.declared.joined.JoinedReply.TheVariants.{NoKey as JoinedNoKey, NoKeyFirst as JoinedNoKeyFirst, NoKeySecond as JoinedNoKeySecond}
pub use Rattle.slotmap_core.specs.declared.secondary.SecondaryReply.TheVariants.{Old as SideOld, Memory as SideMemory, Looked as SideLooked, Flag as SideFlag, Taken as SideTaken, Entry as SideEntry}
pub use Rattle.slotmap_core.specs.declared.secondary.SecondaryReply.TheVariants.{Len as SideLen}
-- a plain command as one of a list in which keys can be detached: what makes it, for the laws that speak of both kinds of lists
pub use Rattle.slotmap_core.specs.declared.commands.DetachCommand.TheVariants.{Plain as PlainCommand}
pub use Rattle.slotmap_core.specs.declared.commands.Command.TheVariants.{Get as GetCommand, Remove as RemoveCommand}
pub use Rattle.slotmap_core.specs.declared.joined.JoinedDetachCommand.TheVariants.{Plain as PlainJoined}
-- runs: the machine, what a run is given, the laws of its replies
pub use Rattle.slotmap_core.specs.Machine.{State, StandsIn, IsIssued, Fresh, empty_state, retired}
pub use Rattle.slotmap_core.specs.Given.{RunGiven, given, any_closures}
pub use Rattle.slotmap_core.specs.Step.{Step, DetachStep}
pub use Rattle.slotmap_core.specs.Run.{Run, Unretiring}
pub use Rattle.slotmap_core.specs.Fit.{Fits, Starts, RunFollows, RunsAnew, Continues}
pub use Rattle.slotmap_core.specs.Law.{Laws, DetachLaws, NoKeyTwice, RemovedForGood, ReserveHolds, DetachedNotReissued, DetachedReattaches, ReattachBinds, LastFreedFirst}
pub use Rattle.slotmap_core.specs.Law.{GoneForGood, ShowsLive, ShowsNotLive, RemovesKey, LeavesAttached, FindsNothing}
pub use Rattle.slotmap_core.specs.Law.{IsRefusal, needs_room, detach_needs_room, Spares, keys_told}
-- what replies tell of a key
pub use Rattle.slotmap_core.specs.Told.{Knowledge, has, is_live, may_be_live, is_detached, gone, absent, known_from, told, Agrees, AgreesLive, Reads, ReadsWhatWasPut, IndexStaysSmall}
pub use Rattle.slotmap_core.specs.SecondaryStep.{SideStep, SideGiven, given_secondary, LooksAt}
pub use Rattle.slotmap_core.specs.SecondaryLaw.{HadMemory, Shows, seen_by, EachAgrees}
pub use Rattle.slotmap_core.specs.Joined.{JoinedStep, JoinedDetachStep, Joined, given_joined, named, RunsBeside}
pub use Rattle.slotmap_core.specs.Dictionary.{Dictionary, WithDictionary, DictionaryStep, DetachDictionaryStep, RepliesByDictionary, noted, unused, RunsByDictionary}
pub use Rattle.slotmap_core.specs.JoinedLaw.{JoinedFindsNothing, JoinedRemovedForGood}
pub use Rattle.slotmap_core.specs.Key.{Key, IsKey, null_key, is_last, next_version, is_older, key_cmp, coded_key, same_keys}
pub use Rattle.slotmap_core.specs.Content.{Content, content_code, IsContent, IsLive, IsDetached, IsRetired, IsVacant, HasVacant, Stands, used, places, most}
pub use Rattle.slotmap_core.specs.Spent.{IsSpent, KeepsSpent}
pub use Rattle.slotmap_core.specs.Transition.{IsNew, Keeps, Inserts, Replaces, Removes, Detaches, Reattaches, Leaves, FreesByIndex, Empties, EmptiesByIndex, TakesPair, TakesFirst, with_value}
pub use Rattle.slotmap_core.specs.Refusal.{LacksRoom, Refuses, RefusesInsert, RefusesWith, RefusesReattach, RefusesCapacity}
pub use Rattle.slotmap_core.specs.Listing.{IsListing, IsKeyListing, IsValueListing, IsListingBut, ListsByIndex, NoneBelow}
pub use Rattle.slotmap_core.specs.Call.{StaysValid, MayGrow, MakesRoom}
pub use Rattle.slotmap_core.specs.Retain.{RetainsBy, CallableOnEach}
pub use Rattle.slotmap_core.specs.Clones.{ClonesEqual, IsCloneOf, AreClones}
pub use Rattle.slotmap_core.specs.Copy.{IsCopy, IsCloneBy}
pub use Rattle.slotmap_core.specs.Disjoint.{CanReplace, AreValuesOf, with_values}
pub use Rattle.slotmap_core.specs.FromList.{start_live, StartsFrom}
pub use Rattle.slotmap_core.specs.Written.{Writes, WritesClones, Restores}
pub use Rattle.slotmap_core.specs.ListRead.{ReadsAs}
pub use Rattle.slotmap.specs.KeysAlone.{keys_of, without_values, keys_code}
-- a map whose values are packed: its model is a content with the live keys and their values in packed order
pub use Rattle.slotmap_dense.specs.Dense.{Dense, dense_code, IsDense, ListsPairs, IsEmpty, SameOrder, ClonesInOrder, Appends, ClosesGap, TakesLast}
pub use Rattle.slotmap_dense.specs.Dense.{FreesFromBack, value_of, with_value_of, with_values_in}
pub use Rattle.slotmap_dense.specs.Lends.{KeyMembers}
pub use Rattle.slotmap_dense.specs.Call.{StaysDense, GrowsDense, MakesDenseRoom}
pub use Rattle.slotmap_dense.specs.Retain.{RetainsPacked}
-- a map whose iterators hop: its model is a content with the blocks that its vacant places form
pub use Rattle.slotmap_hop.specs.HopContent.{HopContent, hop_code, IsHopContent, NoBlocks, IsNextLive, hop_with_value, hop_with_values}
pub use Rattle.slotmap_hop.specs.HopContent.{blocks_without, blocks_without_all, StaysHop, GrowsHop, MakesHopRoom}
pub use Rattle.slotmap_hop.specs.Blocks.{Blocks, HasMaximalBlocks, IsBlock, vacated, offer_place, shorter}
pub use Rattle.slotmap_hop.specs.Iter.{HopIter, StartsIter, CountsReads, CountsReadsSomewhere, ListsRetired, ReadsFew}
pub use Rattle.slotmap_hop.specs.Retain.{RetainsByIndex}
-- the least index after that of a key, where `next_after` goes on
pub use Rattle.slotmap_basic.specs.After.{index_after}
-- side tables
pub use Rattle.slotmap_core.specs.SecondaryClones.{HasClones}
pub use Rattle.slotmap_core.specs.Secondary.{Pairs, pairs_code, IsSecondary, get, contains_key, entry, has_entry, is_null, put, bind, remove, RefusesPut, keyed}
pub use Rattle.slotmap_core.specs.Beside.{IsBeside}
pub use Rattle.slotmap_core.specs.OrPut.{OrPuts}
pub use Rattle.slotmap_core.specs.SecondaryEqual.{AreEqual}
pub use Rattle.slotmap_core.specs.SecondaryExtend.{AllPut, Extends, ExtendsBy}
-- the models of a `SecondaryMap` and of a `SparseSecondaryMap`, and what holds of each; a function with an entry as a
-- parameter requires that it is in place
pub use Rattle.slotmap_secondary.specs.Content.{SideContent, side_code, IsSideContent, side_with_value}
pub use Rattle.slotmap_secondary.specs.Entry.{IsSideInPlace, side_entry_map, side_entry_key, side_entry_value, side_entry_with}
pub use Rattle.slotmap_sparse.specs.Content.{SparseContent, sparse_code, IsSparseContent, sparse_with_value, RefusesRoom, most_keys}
pub use Rattle.slotmap_sparse.specs.Entry.{IsSparseInPlace, sparse_entry_map, sparse_entry_key, sparse_entry_value, sparse_entry_with}
-- what a step of a drain, or of an iterator that lends values, requires and leaves
pub use Rattle.slotmap_basic.specs.Drain.{DrainCanStep, DrainSteps, drain_live, drain_loan}
pub use Rattle.slotmap_dense.specs.Drain.{DenseDrainSteps, dense_drain_live, dense_drain_loan}
pub use Rattle.slotmap_dense.specs.IterMut.{IterMutCanStep}
pub use Rattle.slotmap_hop.specs.Drain.{HopDrainCanStep, HopDrainSteps, hop_drain_live, hop_drain_loan}
pub use Rattle.slotmap_secondary.specs.Drain.{SideDrainCanStep, SideDrainSteps, side_drain_loan}
pub use Rattle.slotmap_sparse.specs.Drain.{SparseDrainSteps, sparse_drain_loan}
