-- What holds of every history and every pass.
use Rattle.std.specs.Prelude.{◌⊎◌, List}
use mathlib.Core.List.{IsPrefix}
use Rattle.la_set.specs.Histories.{Histories}
use Rattle.la_acceptor.specs.declared.reply.Reply.{Reply}
use Rattle.la_shared.specs.declared.entry.Entry.{Entry}
use Rattle.la_shared.specs.History.{HasEntry}
use Rattle.la_shared.specs.Passes.{Known, Extends, IsPass}

-- what a pass knows it never loses
pub record WhatWasSeenStays : Type 0 where
  -- after an answered offer it has seen what it had seen
  pub grows : (old new : Known) (set : Histories) (reply : Reply) →
      Extends set reply old new → IsPrefix old.seen new.seen × IsPrefix old.mine new.mine
  -- and this offer with its reply, one of its own
  pub answered : (old new : Known) (set : Histories) (reply : Reply) →
      Extends set reply old new → HasEntry new.seen set reply × HasEntry new.mine set reply
  -- an entry of a history stands in each longer one
  pub entries : (history longer : List Entry) (set : Histories) (reply : Reply) →
      IsPrefix history longer → HasEntry history set reply → HasEntry longer set reply
  -- and an own entry in what was seen
  pub own : (pass : Known) (set : Histories) (reply : Reply) →
      IsPass pass → HasEntry pass.mine set reply → HasEntry pass.seen set reply
  -- of two beginnings of one history, one begins with the other
  pub beginnings : (one other history : List Entry) →
      IsPrefix one history → IsPrefix other history → IsPrefix one other ⊎ IsPrefix other one
