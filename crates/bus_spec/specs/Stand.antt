-- Where everything stands at a place of a journal, by what the entries before did, without any walk: what is known of the muxes
-- on each bus, the world of each root, and the calls of its port.
use Rattle.std.specs.Prelude.{ℕ, Bool, List, [], ◌∷◌, ◌++◌, reverse}
use Rattle.i2c_base.specs.declared.entry.Entry.{Entry}
use Rattle.i2c_base.specs.declared.entry.Entry.TheVariants as entry
use Rattle.i2c_base.specs.declared.entry.End.{End}
use Rattle.i2c_base.specs.declared.port.PortCall.{PortCall}
use Rattle.i2c_base.specs.Board.{BoardView}
use Rattle.i2c_spec.specs.Tree.{root_of}
use Rattle.i2c_spec.specs.World.{World, after, opening_world}
use Rattle.i2c_spec.specs.Conversation.{TalkTold, talk, world_listener}
use Rattle.i2c_spec.specs.Flat.{block_limit}
use Rattle.i2c_spec.specs.History.{changed_at}
use Rattle.bus_spec.specs.Walk.{Mark, Job, Act, Send, Shift, Sent, Lined, job_bus, message_of, is_last}
use Rattle.bus_spec.specs.Slots.{Slots, all_clean, after_job}
use Rattle.bus_spec.specs.Readings.{of_message}
use Rattle.bus_spec.specs.Past.{cut_of, line_call}
use Rattle.bus_spec.specs.WalkRule.{Deed}

pub record Stand : Type 0 where
  pub slot : Slots
  pub worlds : ℕ → World
  -- newest first
  pub calls : ℕ → List PortCall

abbrev pub first_stand : BoardView → Stand
first_stand b = record { slot = all_clean; worlds = opening_world b; calls = λ r. [] }

-- one message of a job, in the world of its root
abbrev pub said_in : BoardView → (ℕ → World) → Job → ℕ → End → TalkTold World
said_in b worlds job left e =
    talk world_listener (block_limit b) (worlds (root_of b (job_bus job))) (message_of b job left) (is_last job left) (cut_of e)

abbrev pub with_message : BoardView → Stand → Job → ℕ → List Mark → List ℕ → End → TalkTold World → Stand
with_message b s job left marks bytes e t =
    record {
      slot = after_job job left marks (Sent e bytes) s.slot;
      worlds = changed_at s.worlds (root_of b (job_bus job)) t.now;
      calls = changed_at s.calls (root_of b (job_bus job)) (t.calls ++ s.calls (root_of b (job_bus job)));
    }

abbrev pub message_done : BoardView → Stand → Act → List Mark → List ℕ → End → Stand
message_done b s (Send job left) marks bytes e = with_message b s job left marks bytes e (said_in b s.worlds job left e)
message_done b s act marks bytes e = s

abbrev pub line_done : BoardView → Stand → Act → List Mark → Bool → Stand
line_done b s (Shift job) marks failed =
    record {
      slot = after_job job 0 marks (Lined failed) s.slot;
      worlds = changed_at s.worlds (root_of b (job_bus job)) (after (s.worlds (root_of b (job_bus job))) (line_call job failed));
      calls = changed_at s.calls (root_of b (job_bus job)) (line_call job failed ∷ s.calls (root_of b (job_bus job)));
    }
line_done b s act marks failed = s

-- after one entry more, which did this
abbrev pub stand_behind : BoardView → Stand → Deed → Entry → Stand
stand_behind b s deed (entry.Line c mux level failed) = line_done b s deed.act deed.marks failed
stand_behind b s deed e = of_message s (λ m. message_done b s deed.act deed.marks m.bytes m.end) e

-- after a past, whose entries did these
abbrev pub stand : BoardView → List Deed → List Entry → Stand
stand b deeds [] = first_stand b
stand b [] (e ∷ past) = stand b [] past
stand b (d ∷ deeds) (e ∷ past) = stand_behind b (stand b deeds past) d e

-- the calls of a root's port, in order
abbrev pub calls_by : BoardView → List Deed → List Entry → ℕ → List PortCall
calls_by b deeds past r = reverse ((stand b deeds past).calls r)
