-- The transfers of a text, line by line: its handles reach by force only what stands in a `force` line, and each command asks only for
-- what the rule tells. The inductions go over handles, lines and replies.
use Rattle.reg_cache.proofs.Cited.{◌≡◌, ◌⊎◌, ℕ, zero, suc, Bool, true, false, cond, inl, inr, List, [], ◌∷◌, ◌++◌, Option, Some, None, refl}
use Rattle.reg_cache.proofs.Cited.{sym, ◌∙◌, ap, slice_set, AllByRecursion, BoardView, HandlesView, Desc, DescOp, is_forced_in, addrs_of}
use Rattle.reg_cache.proofs.Cited.{Touches, Unforced}
use Rattle.std.specs.Prelude.{⊤, nat_lt}
use Rattle.i2c_spec.specs.Tree.{buses}
use Rattle.i2c_spec.specs.Grant.{grant_of, is_busy}
use Rattle.dev_handle.specs.Handles.{handle_at, if_open, answer_by_handle, changed, changed_if, fresh, slaved, with_pec, target_at}
use Rattle.dev_handle.specs.Handles.{target_of, bus_and_force}
use Rattle.dev_handle.specs.declared.handle.OpenHandle.{OpenHandle}
use Rattle.tools.specs.Dialogues.{Dialogue}
use Rattle.tools.specs.Gets as gets
use Rattle.tools.specs.Gets.{run_by, register_run, mode_of_get, len_of}
use Rattle.tools.specs.Sets as sets
use Rattle.tools.specs.Sets.{set_op}
use Rattle.tools.specs.Runs as forms
use Rattle.tools.specs.declared.command.get.Get.{Get}
use Rattle.tools.specs.declared.command.get.GetMode.{GetMode}
use Rattle.tools.specs.declared.command.get.GetMode.TheVariants as mode
use Rattle.tools.specs.declared.command.ToolCmd.{ToolCmd}
use Rattle.tools.specs.declared.command.ToolCmd.TheVariants as tool
use Rattle.tools.specs.declared.command.handle.HandleCmd.{HandleCmd}
use Rattle.tools.specs.declared.command.handle.HandleCmd.TheVariants as handle
use Rattle.tools.specs.declared.run.call.HeldOp.{HeldOp}
use Rattle.tools.specs.declared.run.call.HeldOp.TheVariants as held
use Rattle.tools.specs.declared.lists.DescOp.TheVariants as op
use Rattle.tools.specs.Commands as tools
use Rattle.tools.specs.Calls.{held_call}
use Rattle.tools.specs.Chains.{chained}
use Rattle.tools.specs.DumpTables.{dump_call}
use Rattle.caller_core.specs.HandleRuns.{callee_of, run_by_answer, handle_run, handles_after, message_by_handle, messages_at}
use Rattle.caller_core.specs.HandleRuns.{call_by_handle}
use Rattle.caller_core.specs.Reach.{forced_if, forced_by_tool, forced_by_handle}
use Rattle.reg_cache.proofs.TextLemmas.{MayForce, touch-call, touch-transfer}

module _ (b : BoardView) (text : List ℕ) where
  -- these addresses may be reached by force
  abbrev AllForced : List ℕ → Type 0
  AllForced addrs = AllByRecursion (λ (a : ℕ). is_forced_in b a text ≡ true) addrs

  -- each transfer of what is said is one that the text may ask for
  abbrev pub SaysTouch : Dialogue → Type 0
  SaysTouch d = (k : ℕ) → Touches b text (d.at k)

  may_force : (force : Bool) (addr : ℕ) → AllForced (forced_if force (addr ∷ [])) → MayForce b text force addr
  may_force true addr all = inr all.0
  may_force false addr all = inl refl

  may_force_all : (force : Bool) (addrs : List ℕ) → AllForced (forced_if force addrs) → (force ≡ false) ⊎ AllForced addrs
  may_force_all true addrs all = inr all
  may_force_all false addrs all = inl refl

  -- ---- tools
  register_touch : (g : Get) (reg : ℕ) (m : GetMode) → MayForce b text g.force g.addr → SaysTouch (forms.dialogue_of (register_run g reg m))
  register_touch g reg mode.Byte may k = touch-call b text (held_call (record { to = gets.get_callee g; op = held.ReadByte reg })) may
  register_touch g reg mode.Word may k = touch-call b text (held_call (record { to = gets.get_callee g; op = held.ReadWord reg })) may
  register_touch g reg mode.SendReceive may k = touch-call b text (chained (record { to = gets.get_callee g; sent = reg }) k) may
  register_touch g reg mode.Block may k = touch-call b text (held_call (record { to = gets.get_callee g; op = held.BlockRead reg })) may
  register_touch g reg mode.I2cBlock may k = touch-call b text (held_call
      (record { to = gets.get_callee g; op = held.I2cBlockRead reg (len_of g) })) may

  get_touch : (g : Get) (o : Option ℕ) → MayForce b text g.force g.addr → SaysTouch (forms.dialogue_of (run_by g o))
  get_touch g None may k = touch-call b text (held_call (record { to = gets.get_callee g; op = held.ReceiveByte })) may
  get_touch g (Some reg) may k = register_touch g reg (mode_of_get g) may k

  pub tool-touch : (t : ToolCmd) → AllForced (forced_by_tool t) → SaysTouch (forms.dialogue_of (tools.tool_run b t))
  tool-touch (tool.Get g) all k = get_touch g g.reg (may_force g.force g.addr all) k
  tool-touch (tool.Set s) all k =
      touch-call b text (held_call (record { to = sets.set_callee s; op = set_op s (sets.mode_of_set s) })) (may_force s.force s.addr all)
  tool-touch (tool.Combined c) all k = touch-transfer b text c (may_force_all c.force (addrs_of c.messages) all)
  tool-touch (tool.Dump d) all k = touch-call b text (dump_call d k) (may_force d.force d.addr all)
  tool-touch tool.List all k = Unforced refl
  tool-touch (tool.Detect d) all k = Unforced refl

  -- ---- handles: one that forces has an address that stands in a `force` line
  abbrev pub HandleOk : OpenHandle → Type 0
  HandleOk h = (h.force ≡ false) ⊎ ((a : ℕ) × (h.addr ≡ Some a) × (is_forced_in b a text ≡ true))

  abbrev pub EntryOk : Option OpenHandle → Type 0
  EntryOk None = ⊤
  EntryOk (Some h) = HandleOk h

  abbrev pub HandlesOk : HandlesView → Type 0
  HandlesOk v = AllByRecursion EntryOk v

  entry_at : (v : HandlesView) (n : ℕ) → HandlesOk v → EntryOk (handle_at v n)
  entry_at [] n ok = tt
  entry_at (o ∷ v) zero ok = ok.0
  entry_at (o ∷ v) (suc n) ok = entry_at v n ok.1

  entries_set : (v : HandlesView) (n : ℕ) (o : Option OpenHandle) → HandlesOk v → EntryOk o → HandlesOk (slice_set v n o)
  entries_set [] n o ok one = tt
  entries_set (x ∷ v) zero o ok one = (one, ok.1)
  entries_set (x ∷ v) (suc n) o ok one = (ok.0, entries_set v n o ok.1 one)

  entries_more : (v : HandlesView) (o : Option OpenHandle) → HandlesOk v → EntryOk o → HandlesOk (v ++ o ∷ [])
  entries_more [] o ok one = (one, tt)
  entries_more (x ∷ v) o ok one = (ok.0, entries_more v o ok.1 one)

  changed_ok : (v : HandlesView) (n : ℕ) (f : OpenHandle → Option OpenHandle) → HandlesOk v
      → ((h : OpenHandle) → HandleOk h → EntryOk (f h))
      → HandlesOk (changed v n f)
  changed_ok v n f ok each = by (handle_at v n) (entry_at v n ok)
    where
      by : (o : Option OpenHandle) → EntryOk o → HandlesOk (changed_if v n f o)
      by None one = ok
      by (Some h) one = entries_set v n (f h) ok (each h one)

  slaved_ok : (addr : ℕ) (force : Bool) → AllForced (forced_if force (addr ∷ [])) → (h : OpenHandle) → HandleOk h
      → EntryOk (slaved b addr force h)
  slaved_ok addr force all h ok = by (is_busy (grant_of b h.bus addr force)) force all
    where
      by : (z f : Bool) → AllForced (forced_if f (addr ∷ [])) → HandleOk (cond z h (record h { addr = Some addr; force = f }))
      by true f every = ok
      by false true every = inr (addr, refl, every.0)
      by false false every = inl refl

  -- the handles after a line
  pub after-ok : (v : HandlesView) (h : HandleCmd) → HandlesOk v → AllForced (forced_by_handle h) → HandlesOk (handles_after b v h)
  after-ok v (handle.Open bus) ok all = by (nat_lt bus (buses b))
    where
      by : (z : Bool) → HandlesOk (cond z (v ++ Some (fresh bus) ∷ []) v)
      by true = entries_more v (Some (fresh bus)) ok (inl refl)
      by false = ok
  after-ok v (handle.Slave n addr force) ok all = changed_ok v n (slaved b addr force) ok (slaved_ok addr force all)
  after-ok v (handle.Pec n on) ok all = changed_ok v n (with_pec on) ok (λ h one. one)
  after-ok v (handle.Read n c) ok all = ok
  after-ok v (handle.Write n bytes) ok all = ok
  after-ok v (handle.Rdwr n ms) ok all = ok
  after-ok v (handle.Proc n reg word) ok all = ok
  after-ok v (handle.Bproc n reg bytes) ok all = ok
  after-ok v (handle.Close n) ok all = changed_ok v n (λ x. None) ok (λ h one. tt)

  -- what a handle's line asks for
  message_touch : (o : DescOp) (v : HandlesView) (n : ℕ) → HandlesOk v
      → SaysTouch (forms.dialogue_of (run_by_answer (message_by_handle o) (answer_by_handle v n target_of)))
  message_touch o v n ok k = by (handle_at v n) (entry_at v n ok)
    where
      at : (h : OpenHandle) (a : Option ℕ) → h.addr ≡ a → HandleOk h
          → Touches b text ((forms.dialogue_of (run_by_answer (message_by_handle o) (target_at h a))).at k)
      at h None e one = Unforced refl
      at h (Some a) e (inl plain) = touch-transfer b text (record {
        force = h.force;
        bus = h.bus;
        messages =
            record { addr = a; op = o } ∷ [];
      }) (inl plain)
      at h (Some a) e (inr r) =
          touch-transfer b text (record { force = h.force; bus = h.bus; messages = record { addr = a; op = o } ∷ [] }) (inr (
            (let f : Some r.0 ≡ Some a = sym r.1 ∙ e in
                let same : r.0 ≡ a = cc in ap (λ (i : ℕ). is_forced_in b i text) (sym same) ∙ r.2),
            tt,
          ))

      by : (x : Option OpenHandle) → EntryOk x → Touches b text ((forms.dialogue_of (run_by_answer (message_by_handle o)
          (if_open x target_of))).at k)
      by None one = Unforced refl
      by (Some h) one = at h h.addr refl one

  held_touch : (o : HeldOp) (v : HandlesView) (n : ℕ) → HandlesOk v
      → SaysTouch (forms.dialogue_of (run_by_answer (call_by_handle o) (answer_by_handle v n target_of)))
  held_touch o v n ok k = by (handle_at v n) (entry_at v n ok)
    where
      at : (h : OpenHandle) (a : Option ℕ) → h.addr ≡ a → HandleOk h
          → Touches b text ((forms.dialogue_of (run_by_answer (call_by_handle o) (target_at h a))).at k)
      at h None e one = Unforced refl
      at h (Some a) e (inl plain) = touch-call b text (held_call
          (record { to = callee_of (record { bus = h.bus; addr = a; force = h.force; pec = h.pec }); op = o })) (inl plain)
      at h (Some a) e (inr r) =
          touch-call b text (held_call (record { to = callee_of (record { bus = h.bus; addr = a; force = h.force; pec = h.pec }); op = o }))
          (inr (let f : Some r.0 ≡ Some a = sym r.1 ∙ e in
          let same : r.0 ≡ a = cc in ap (λ (i : ℕ). is_forced_in b i text) (sym same) ∙ r.2))

      by : (x : Option OpenHandle) → EntryOk x → Touches b text ((forms.dialogue_of (run_by_answer (call_by_handle o)
          (if_open x target_of))).at k)
      by None one = Unforced refl
      by (Some h) one = at h h.addr refl one

  rdwr_touch : (ms : List Desc) (v : HandlesView) (n : ℕ) → AllForced (addrs_of ms)
      → SaysTouch (forms.dialogue_of (run_by_answer (messages_at ms) (answer_by_handle v n bus_and_force)))
  rdwr_touch ms v n all k = by (handle_at v n)
    where
      by : (x : Option OpenHandle) → Touches b text ((forms.dialogue_of (run_by_answer (messages_at ms) (if_open x bus_and_force))).at k)
      by None = Unforced refl
      by (Some h) = touch-transfer b text (record { force = h.force; bus = h.bus; messages = ms }) (inr all)

  pub handle-touch : (v : HandlesView) (h : HandleCmd) → HandlesOk v → AllForced (forced_by_handle h)
      → SaysTouch (forms.dialogue_of (handle_run b v h))
  handle-touch v (handle.Open bus) ok all k = Unforced refl
  handle-touch v (handle.Slave n addr force) ok all k = Unforced refl
  handle-touch v (handle.Pec n on) ok all k = Unforced refl
  handle-touch v (handle.Read n c) ok all k = message_touch (op.Read c) v n ok k
  handle-touch v (handle.Write n bytes) ok all k = message_touch (op.Write bytes) v n ok k
  handle-touch v (handle.Rdwr n ms) ok all k = rdwr_touch ms v n all k
  handle-touch v (handle.Proc n reg word) ok all k = held_touch (held.ProcCall reg word) v n ok k
  handle-touch v (handle.Bproc n reg bytes) ok all k = held_touch (held.BlockProc reg bytes) v n ok k
  handle-touch v (handle.Close n) ok all k = Unforced refl
