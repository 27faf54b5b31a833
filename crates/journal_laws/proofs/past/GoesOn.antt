-- Who has a next step, and waits for nothing, has an entry that may come. No induction.
use Rattle.journal_laws.proofs.Cited.{◌≡◌, ℕ, ◌<◌, Bool, false, List, Option, Some, None, refl, sym, ◌∙◌, ap, subst, ◌⊎◌, inl, inr, LockId}
use Rattle.journal_laws.proofs.Cited.{Node, Errno, End, Entry, BoardView, root_of, IsTree, IsPlainBoard, World, hearers, TalkTold}
use Rattle.journal_laws.proofs.Cited.{world_listener, talk, block_limit, Asks, Job, Call, Select, SwitchOff, off_mux, Act, Take, Free, Send}
use Rattle.journal_laws.proofs.Cited.{Shift, Settle, job_bus, job_purpose, message_of, is_last, part_of, parts_of, line_mux, line_level}
use Rattle.journal_laws.proofs.Cited.{first_act, caller_of, holder, Now, begun, current, now, talk_of, cut_of, heard_list, HearsIn, May}
use Rattle.journal_laws.proofs.Cited.{IsNext, IsStepwise, reply_by, LinesAreLocked, AsksForMessages, who_hears, chip_where, CanGoOn}
use Rattle.journal_laws.proofs.Cited.{IsOwnEnd, holder-told, never, IsDueBehind, due-made, call-reaches, control-switches, takes-below}
use Rattle.i2c_base.specs.declared.entry.End.TheVariants as end
use Rattle.i2c_base.specs.declared.entry.Entry.TheVariants as entry
use Rattle.bus_laws.specs.Next.{WillReach}
use Rattle.bus_laws.specs.Ready.{IsStuck, SomeCanGoOn}
use Rattle.journal_laws.proofs.past.CutTalks.{talk-front}
use Rattle.bus_laws.proofs.past.Whole.{goes_on_from}
use Rattle.bus_laws.proofs.past.Known.{takes}
use Rattle.bus_laws.proofs.past.Ready.{some-free}

-- a message of which no call fails ends by itself
hears_own : (w : World) (addr : ℕ) (reading : Bool) (heard : Option Node) (e : End) → IsOwnEnd e → hearers w addr reading ≡ heard_list heard
    → HearsIn w addr reading heard e
hears_own w addr reading heard end.Ok own h = h
hears_own w addr reading heard end.Nack own h = h
hears_own w addr reading heard end.Slow own h = h
hears_own w addr reading heard end.Refused own h = h
hears_own w addr reading heard end.Proto own h = h
hears_own w addr reading heard (end.Cut q) own h = absurd own

pub own_cut : (e : End) → IsOwnEnd e → cut_of e ≡ None
own_cut end.Ok own = refl
own_cut end.Nack own = refl
own_cut end.Slow own = refl
own_cut end.Refused own = refl
own_cut end.Proto own = refl
own_cut (end.Cut q) own = absurd own

-- a message may come that tells its talk in the world of its root, and who hears it
pub message-may : (b : BoardView) (callers : ℕ) (asks : Asks) (n : Now) (c : ℕ) (job : Job) (left : ℕ) (t : TalkTold World)
    (heard : Option Node) → c < callers → n.due ≡ None → IsNext b asks n c (Send job left) → t ≡ talk_of b n job left t.end
    → HearsIn (n.worlds (root_of b (job_bus job))) (message_of b job left).addr (message_of b job left).reading heard t.end
    → May b callers asks n (entry.Message c (job_bus job) (job_purpose job) (part_of job left) (parts_of job)
    (message_of b job left).addr (message_of b job left).reading t.bytes heard t.end)
message-may b callers asks n c job left t heard known none next same hears = (
  known,
  none,
  (
    job,
    left,
    next,
    record {
      on_bus = refl;
      for_purpose = refl;
      as_part = refl;
      of_parts = refl;
      to_addr = refl;
      in_direction = refl;
      bytes_told = ap (λ (x : TalkTold World). x.bytes) same;
      end_told = ap (λ (x : TalkTold World). x.end) same;
      heard_told = hears;
    },
  ),
)

module _ (b : BoardView) (tree : IsTree b) (plain : IsPlainBoard b) (lines : LinesAreLocked b) (asks : Asks) (some : AsksForMessages asks)
    (callers : ℕ)
    (past : List Entry) (steps : IsStepwise b callers asks past) where
  abbrev n : Now
  n = now b asks past

  -- a message, heard as its world says
  message_comes : (c : ℕ) → c < callers → n.due ≡ None → (job : Job) (left : ℕ) → IsNext b asks n c (Send job left) → (heard : Option Node)
      → hearers (n.worlds (root_of b (job_bus job))) (message_of b job left).addr (message_of b job left).reading ≡ heard_list heard
      → CanGoOn b callers asks past c
  message_comes c known none job left next heard hears =
      let told : TalkTold World = talk world_listener (block_limit b) (n.worlds (root_of b (job_bus job))) (message_of b job left)
      (is_last job left) None in
      let own : IsOwnEnd told.end = (talk-front world_listener None (block_limit b) (n.worlds (root_of b (job_bus job)))
      (message_of b job left) (is_last job left)).own_end in
      let same : talk_of b n job left told.end ≡ told =
      ap (λ (cut : Option ℕ). talk world_listener (block_limit b) (n.worlds (root_of b (job_bus job))) (message_of b job left)
      (is_last job left) cut) (own_cut told.end own) in
      record {
        entry = entry.Message c (job_bus job) (job_purpose job) (part_of job left) (parts_of job) (message_of b job left).addr
            (message_of b job left).reading told.bytes heard told.end;
        own = refl;
        may = message-may b callers asks n c job left told heard known none next (sym same)
            (hears_own (n.worlds (root_of b (job_bus job))) (message_of b job left).addr (message_of b job left).reading heard told.end own
            hears);
      }

  -- a settle has the reply that its walk decides
  settle_comes : (c : ℕ) → c < callers → (n.due ≡ None) ⊎ (n.due ≡ Some c) → (verdict : Option Errno) → IsNext b asks n c (Settle verdict)
      → CanGoOn b callers asks past c
  settle_comes c known due verdict next =
      record {
        entry = entry.Settle c (reply_by verdict (asks c (n.settled c)) (n.got c)) (n.cut c);
        own = refl;
        may = (known, due, verdict, next, refl, refl);
      }

  act_comes : (c : ℕ) → c < callers → n.due ≡ None → (act : Act) → IsNext b asks n c act
      → ((l : LockId) → act ≡ Take l → holder past l ≡ None) → CanGoOn b callers asks past c
  act_comes c known none (Take l) next free =
      record {
        entry = entry.Take c l;
        own = refl;
        may = (
          known,
          none,
          next,
          holder-told b asks past l
              ∙ free l refl,
          takes-below b tree plain lines asks some callers past steps c l next,
        );
      }
  act_comes c known none (Free l) next free = record { entry = entry.Free c l; own = refl; may = (known, none, next) }
  act_comes c known none (Send (Call bus messages) left) next free =
      let reach : WillReach b asks n c bus messages left =
      call-reaches b tree plain lines asks some callers past steps c bus messages left next in
      let m = message_of b (Call bus messages) left in
      message_comes c known none (Call bus messages) left next
      (who_hears b (n.worlds (root_of b bus)) bus reach.transfer.force m.addr m.reading) reach.heard
  act_comes c known none (Send (Select h) left) next free =
      message_comes c known none (Select h) left next (chip_where b h.mux)
      (control-switches b tree plain lines asks some callers past steps c (Select h) left h.mux refl next).heard
  act_comes c known none (Send (SwitchOff off) left) next free =
      message_comes c known none (SwitchOff off) left next (chip_where b (off_mux off))
      (control-switches b tree plain lines asks some callers past steps c (SwitchOff off) left (off_mux off) refl next).heard
  act_comes c known none (Shift job) next free =
      record {
        entry = entry.Line c (line_mux job) (line_level job) false;
        own = refl;
        may = (known, none, (job, next, record { of_mux = refl; to_level = refl }));
      }
  act_comes c known none (Settle verdict) next free = settle_comes c known (inl none) verdict next

  -- a settle that is due may come
  due_comes : (c : ℕ) → n.due ≡ Some c → CanGoOn b callers asks past c
  due_comes c due =
      let made : IsDueBehind b callers asks past c = due-made b asks some callers past c steps due in
      settle_comes c made.known (inr due) made.verdict
      (goes_on_from n.slot (begun b (asks c (n.settled c))) (n.walk c) (Settle made.verdict) made.settles)

  pub some-can-go-on : SomeCanGoOn b callers asks past
  some-can-go-on = by (n.due) refl
    where
      by : (o : Option ℕ) → n.due ≡ o → SomeCanGoOn b callers asks past
      by (Some c) due = inr (c, due_comes c due)
      by None none =
          elim (some-free b tree plain lines asks some callers past steps) [
            | inl finished ↦ inl finished
            | inr free ↦ inr (free.0, act_comes free.0 free.1.known none free.1.act free.1.next free.1.free)
          ]

  -- each caller can go on, or is stuck
  pub goes-on-or-stuck : n.due ≡ None → (c : ℕ) → c < callers → CanGoOn b callers asks past c ⊎ IsStuck b asks past c
  goes-on-or-stuck none c known = by (first_act (current b asks n c)) refl
    where
      by_holder : (l : LockId) → IsNext b asks n c (Take l) → (o : Option ℕ) → holder past l ≡ o
          → CanGoOn b callers asks past c ⊎ IsStuck b asks past c
      by_holder l next None free =
          inl (act_comes c known none (Take l) next
          (λ k e. subst (λ (x : LockId). holder past x ≡ None) (let f : Take l ≡ Take k = e in let g : l ≡ k = cc in g) free))
      by_holder l next (Some h) has = inr (inl (l, h, next, has))

      by : (o : Option Act) → first_act (current b asks n c) ≡ o → CanGoOn b callers asks past c ⊎ IsStuck b asks past c
      by None finished = inr (inr finished)
      by (Some (Take l)) next = by_holder l next (holder past l) refl
      by (Some (Free l)) next = inl (act_comes c known none (Free l) next (λ k e. absurd (let f : Free l ≡ Take k = e in cc)))
      by (Some (Send job left)) next = inl
          (act_comes c known none (Send job left) next (λ k e. absurd (let f : Send job left ≡ Take k = e in cc)))
      by (Some (Shift job)) next = inl (act_comes c known none (Shift job) next (λ k e. absurd (let f : Shift job ≡ Take k = e in cc)))
      by (Some (Settle verdict)) next = inl
          (act_comes c known none (Settle verdict) next (λ k e. absurd (let f : Settle verdict ≡ Take k = e in cc)))

  -- who is stuck can't go on
  pub stuck-stops : (c : ℕ) → IsStuck b asks past c → CanGoOn b callers asks past c → ⊥
  stuck-stops c stuck goes = by goes.entry goes.own goes.may stuck
    where
      taken : (d : ℕ) (l : LockId) (h : ℕ) → May b callers asks n (entry.Take d l) → holder past l ≡ Some h → ⊥
      taken d l h may has = (let f : None ≡ Some h = sym may.3 ∙ holder-told b asks past l ∙ has in cc)

      by : (e : Entry) → caller_of e ≡ c → May b callers asks n e → IsStuck b asks past c → ⊥
      by e own may (inr finished) = never b callers asks n e may
          (subst (λ (i : ℕ). first_act (current b asks n i) ≡ None) (sym own) finished)
      by e own may (inl waits) =
          let took = takes b callers asks n e may waits.0 (subst (λ (i : ℕ). IsNext b asks n i (Take waits.0)) (sym own) waits.2) in
          taken took.0 waits.0 waits.1 (subst (λ (x : Entry). May b callers asks n x) took.1 may) waits.3
