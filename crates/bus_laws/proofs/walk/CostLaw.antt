-- No walk weighs more than its transfer's cost. The inductions go over the tree of a walk, over the messages of a
-- job, over the locks of a path, and over its hops.
use Rattle.bus_laws.proofs.Cited.{◌≡◌, ℕ, zero, suc, ◌+◌, ◌*◌, ◌-◌, ◌<◌, ◌≤◌, Bool, true, false, cond, not, ◌&&◌, List, [], ◌∷◌, ◌++◌}
use Rattle.bus_laws.proofs.Cited.{length, Option, Some, None, refl, sym, ◌∙◌, ap, inl, inr, arith, unwrap_or, drop, option_map, LockId}
use Rattle.bus_laws.proofs.Cited.{MuxSpec, Errno, MuxKind, BoardView, Msg, TransferView, written_of, Hop, hops, root_of, locks_of}
use Rattle.bus_laws.proofs.Cited.{is_parent, IsTree, IsHop, MeetsRules, wants_parent, MessageView, messages_from, messages_of, bytes_most}
use Rattle.bus_laws.proofs.Cited.{refusal, block_limit, Job, Call, Select, SwitchOff, Deselect, Close, Free, Send, Shift, ActOutcome}
use Rattle.bus_laws.proofs.Cited.{JobOutcome, Good, Refused, Unsent, Failed, Note, KeptOf, WalkTree, Ends, Look, Then, Go, On, Last, Over}
use Rattle.bus_laws.proofs.Cited.{goes, job_outcome, verdict_of, decides, is_line, is_gpio, is_arbitrator, more_of, nth_message, Doer}
use Rattle.bus_laws.proofs.Cited.{plain, settled, over, by_go, messages, at_bus, locked, part, with_mark, aside, if_sent, if_good, kind_of}
use Rattle.bus_laws.proofs.Cited.{closing, left_behind, opened, chosen, keeps, crossed, behind, inner, walk_by, walk_for, weight_at}
use Rattle.bus_laws.proofs.Cited.{IsWithin, length-messages, same_Some}
use Rattle.std.proofs.Common.{append_assoc}
use Rattle.std.specs.List.{sum_by}
use Rattle.std.proofs.lemmas.List.Sums.{sum_by-cons}
use Rattle.i2c_base.proofs.MuxLemmas.{arbitrator_row}
use Rattle.i2c_spec.specs.Cost.{lock_steps, behind_by, behind_cost, inner_cost, full_cost, bytes_of, steps_of, cost_of}
use Rattle.i2c_base.specs.Limits.{POLLS}
use Rattle.bus_spec.specs.Grammar.{full}
use Rattle.bus_laws.specs.Costs.{ArbitratorsArePassed}
use Rattle.bus_laws.proofs.tree.Law.{refusal-none}
use Rattle.bus_laws.proofs.world.BoardFacts.{mux_at}
use Rattle.bus_laws.proofs.world.LineFacts.{wanted}
use Rattle.bus_laws.proofs.walk.MessageFacts.{nth-next}
use Rattle.i2c_spec.proofs.CostLemmas.{inner_more}

-- more is enough where less is
pub within_more : (b : BoardView) (w : WalkTree) (n m : ℕ) → n ≤ m → IsWithin b w n → IsWithin b w m
within_more b Ends n m le h = tt
within_more b (Look ask next) n m le h = λ x. within_more b (next x) n m le (h x)
within_more b (Then act note next) n m le h = (h.0, omega (arith, le, h.1), h.2)

-- a message and what is behind it
one_message : (b : BoardView) (job : Job) (left : ℕ) (note : Note) (next : ActOutcome → WalkTree) (n : ℕ)
    → ((out : ActOutcome) → IsWithin b (next out) n)
    → IsWithin b (Then (Send job left) note next) (weight_at b (Send job left) + n)
one_message b job left note next n h = (n, omega arith, h)

settled_within : (b : BoardView) (t : Bool) (verdict : Option Errno) (w : WalkTree) (n : ℕ) → IsWithin b w n
    → IsWithin b (settled t verdict w) n
settled_within b true verdict w n h = (n, omega arith, λ out. h)
settled_within b false verdict w n h = h

over_within : (b : BoardView) (job : Job) (left : ℕ) (note : Note) (k : JobOutcome → WalkTree) (n : ℕ)
    → ((o : JobOutcome) → IsWithin b (k o) n) → (out : ActOutcome)
    → IsWithin b (over job left note k out) n
over_within b job left note k n h out =
    settled_within b (note.forward && decides job (job_outcome job left out)) (verdict_of job left out) (k (job_outcome job left out)) n
    (h (job_outcome job left out))

go_within : (b : BoardView) (g : Go) (w x y : WalkTree) (n : ℕ) → IsWithin b w n → IsWithin b x n → IsWithin b y n
    → IsWithin b (by_go g w x y) n
go_within b On w x y n hw hx hy = hw
go_within b Last w x y n hw hx hy = hx
go_within b Over w x y n hw hx hy = hy

-- what the message of a job weighs where so many may follow, and it and all that follow it
abbrev one_weight : BoardView → Job → ℕ → ℕ
one_weight b job left = weight_at b (Send job left)

abbrev weight_from : BoardView → Job → ℕ → ℕ
weight_from b job zero = one_weight b job zero
weight_from b job (suc left) = one_weight b job (suc left) + weight_from b job left

last_weighs : (b : BoardView) (job : Job) (left : ℕ) → one_weight b job zero ≤ weight_from b job left
last_weighs b job zero = omega arith
last_weighs b job (suc left) =
    let less : one_weight b job zero ≤ weight_from b job left = last_weighs b job left in
    let all : weight_from b job left ≤ one_weight b job (suc left) + weight_from b job left = omega arith in
    le_trans_of (one_weight b job zero) (weight_from b job left) (one_weight b job (suc left) + weight_from b job left) less all
  where
    le_trans_of : (x y z : ℕ) → x ≤ y → y ≤ z → x ≤ z
    le_trans_of x y z e f = omega (arith, e, f)

-- the induction over the messages that may follow
messages_within : (b : BoardView) (left : ℕ) (job : Job) (note : Note) (k : JobOutcome → WalkTree) (n : ℕ)
    → ((o : JobOutcome) → IsWithin b (k o) n)
    → IsWithin b (messages left job note k) (weight_from b job left + n)
messages_within b zero job note k n h = one_message b job zero note (over job zero note k) n (over_within b job zero note k n h)
messages_within b (suc left) job note k n h =
    within_more b (messages (suc left) job note k) (one_weight b job (suc left) + (weight_from b job left + n))
    (weight_from b job (suc left) + n) (omega arith)
    (one_message b job (suc left) note
    (λ out. by_go (goes job left out) (messages left job note k) (Then (Send job zero) note (over job zero note k))
    (over job (suc left) note k out)) (weight_from b job left + n)
    (λ out. go_within b (goes job left out) (messages left job note k) (messages zero job note k) (over job (suc left) note k out)
    (weight_from b job left + n)
    (messages_within b left job note k n h)
    (within_more b (messages zero job note k) (one_weight b job zero + n) (weight_from b job left + n)
    (more_beside (one_weight b job zero) (weight_from b job left) n (last_weighs b job left))
    (one_message b job zero note (over job zero note k) n (over_within b job zero note k n h)))
    (within_more b (over job (suc left) note k out) n (weight_from b job left + n) (omega arith)
    (over_within b job (suc left) note k n h out))))
  where
    more_beside : (x y z : ℕ) → x ≤ y → x + z ≤ y + z
    more_beside x y z e = omega (arith, e)

-- the messages of a job; on its own bus, where a line step may stand for them
abbrev job_weight : BoardView → Job → ℕ
job_weight b job = weight_from b job (more_of job)

abbrev bus_weight : BoardView → Job → ℕ
bus_weight b job = cond (is_line job) 1 (job_weight b job)

-- what a doer keeps: with what goes on it weighs so much, by the job
abbrev DoerWithin : BoardView → (Job → ℕ) → Doer → Type 0
DoerWithin b cost on =
    (job : Job) (note : Note) (k : JobOutcome → WalkTree) (n : ℕ) → ((o : JobOutcome) → IsWithin b (k o) n)
    → IsWithin b (on job note k) (cost job + n)

bus_within : (b : BoardView) → DoerWithin b (bus_weight b) at_bus
bus_within b job note k n h =
    by_line (is_line job)
  where
    by_line : (t : Bool) → IsWithin b (cond t (Then (Shift job) note (over job zero note k)) (messages (more_of job) job note k))
        (cond t 1 (job_weight b job) + n)
    by_line true = (n, omega arith, λ out. over_within b job zero note k n h out)
    by_line false = messages_within b (more_of job) job note k n h

-- THE LOCKS: the induction over them
locked_within : (b : BoardView) (ls : List LockId) (on : Doer) (cost : Job → ℕ) → DoerWithin b cost on
    → DoerWithin b (λ job. 2 * length ls + cost job) (locked ls on)
locked_within b [] on cost sub =
    λ job note k n h. within_more b (on job note k) (cost job + n) ((2 * 0 + cost job) + n) (omega arith) (sub job note k n h)
locked_within b (l ∷ ls) on cost sub =
    λ job note k n h.
    let rest = locked_within b ls on cost sub job note (λ out. Then (Free l) plain (λ o. k out)) (1 + n)
    (λ o. (n, omega arith, λ out. h o)) in
    ((2 * length ls + cost job) + (1 + n), omega arith, λ o. rest)

-- ONE MUX: a close, a select, the job and a deselect, each of them done by what does a job on the bus it stands on
module _ (b : BoardView) (h : Hop) (on : Doer) (cost : Job → ℕ) (sub : DoerWithin b cost on) (close_cost : ℕ) (closes : (m : ℕ)
    → cost (SwitchOff (Close h.on m (kind_of b m))) ≤ close_cost)
    (job : Job) (note : Note) (k : JobOutcome → WalkTree) (n : ℕ) (goes_on : (o : JobOutcome) → IsWithin b (k o) n) where
  abbrev select_cost : ℕ
  select_cost = cost (Select h)

  abbrev deselect_cost : ℕ
  deselect_cost = cost (SwitchOff (Deselect h))

  deselect_within : (out : JobOutcome) → IsWithin b (on (SwitchOff (Deselect h)) (aside h) (λ o. k out)) (deselect_cost + n)
  deselect_within out = sub (SwitchOff (Deselect h)) (aside h) (λ o. k out) n (λ o. goes_on out)

  left_within : (stays : Bool) (out : JobOutcome) → IsWithin b (left_behind stays h on k out) (deselect_cost + n)
  left_within true out = within_more b (k out) n (deselect_cost + n) (omega arith) (goes_on out)
  left_within false out = deselect_within out

  opened_within : IsWithin b (opened h on job note k) (cost job + (deselect_cost + n))
  opened_within = sub job note (left_behind h.stays h on k) (deselect_cost + n) (left_within h.stays)

  abbrev job_total : ℕ
  job_total = cost job + (deselect_cost + n)

  good_within : (o : JobOutcome) → IsWithin b (if_good o (opened h on job note k) k) job_total
  good_within Good = opened_within
  good_within Refused = within_more b (k Unsent) n job_total (omega arith) (goes_on Unsent)
  good_within Unsent = within_more b (k Unsent) n job_total (omega arith) (goes_on Unsent)
  good_within Failed = within_more b (k Failed) n job_total (omega arith) (goes_on Failed)

  chosen_within : IsWithin b (chosen h on job note k) (select_cost + job_total)
  chosen_within = sub (Select h) (with_mark h.on h.mux note) (λ o. if_good o (opened h on job note k) k) job_total good_within

  crossed_within : (m : Option ℕ) → IsWithin b (crossed h on job note k m) (select_cost + job_total)
  crossed_within m = by (keeps h m)
    where
      by : (x : Bool) → IsWithin b (cond x (opened h on job note k) (chosen h on job note k)) (select_cost + job_total)
      by true = within_more b (opened h on job note k) job_total (select_cost + job_total) (omega arith) opened_within
      by false = chosen_within

  abbrev passing : WalkTree
  passing = Look (KeptOf h.on h.mux) (crossed h on job note k)

  sent_within : (o : JobOutcome) → IsWithin b (if_sent o passing k) (select_cost + job_total)
  sent_within Good = crossed_within
  sent_within Refused = crossed_within
  sent_within Unsent = within_more b (k Unsent) n (select_cost + job_total) (omega arith) (goes_on Unsent)
  sent_within Failed = within_more b (k Failed) n (select_cost + job_total) (omega arith) (goes_on Failed)

  closing_within : (m : Option ℕ) → IsWithin b (closing b h on note k passing m) (close_cost + (select_cost + job_total))
  closing_within None = within_more b passing (select_cost + job_total) (close_cost + (select_cost + job_total))
      (omega arith) crossed_within
  closing_within (Some m) =
      within_more b (on (SwitchOff (Close h.on m (kind_of b m))) (with_mark h.on m note) (λ o. if_sent o passing k))
      (cost (SwitchOff (Close h.on m (kind_of b m))) + (select_cost + job_total))
      (close_cost + (select_cost + job_total)) (omega (arith, closes m))
      (sub (SwitchOff (Close h.on m (kind_of b m))) (with_mark h.on m note) (λ o. if_sent o passing k)
      (select_cost + job_total) sent_within)

  pub behind_within : IsWithin b (behind b h on job note k) (close_cost + (select_cost + job_total))
  behind_within = closing_within

same_locks : (root : ℕ) (hs : List Hop) → length (locks_of root hs) ≡ length (locks_of 0 hs)
same_locks root [] = refl
same_locks root (h ∷ hs) = ap suc (by_lock h.parent (same_locks root hs))
  where
    by_lock : (t : Bool) → length (locks_of root hs) ≡ length (locks_of 0 hs)
        → length (cond t (locks_of root hs) []) ≡ length (cond t (locks_of 0 hs) [])
    by_lock true e = e
    by_lock false e = refl

-- a line step is one step wherever it stands
abbrev path_cost : BoardView → List Hop → Job → ℕ
path_cost b hs job = cond (is_line job) 1 (inner_cost hs (job_weight b job))

-- a message to a mux's chip has one byte
select_weighs : (b : BoardView) (h : Hop) (left : ℕ) → weight_from b (Select h) left ≡ 2 * (1 + left)
select_weighs b h zero = refl
select_weighs b h (suc left) = (let e : weight_from b (Select h) left ≡ 2 * (1 + left) = select_weighs b h left in omega (arith, e))

-- what a close, a select and a deselect weigh by the kind of their mux
abbrev off_cost : List Hop → MuxKind → ℕ
off_cost hs kind = cond (is_gpio kind) 1 (inner_cost hs 2)

abbrev select_of : List Hop → MuxKind → ℕ
select_of hs kind = cond (is_gpio kind) 1 (inner_cost hs (2 * (1 + cond (is_arbitrator kind) POLLS 0)))

select_is : (b : BoardView) (hs : List Hop) (h : Hop) → path_cost b hs (Select h) ≡ select_of hs h.kind
select_is b hs h = ap (λ (n : ℕ). cond (is_gpio h.kind) 1 (inner_cost hs n)) (select_weighs b h (cond (is_arbitrator h.kind) POLLS 0))

off_fits : (hs : List Hop) (kind : MuxKind) → off_cost hs kind ≤ inner_cost hs 2
off_fits hs kind = by_line (is_gpio kind)
  where
    by_line : (t : Bool) → cond t 1 (inner_cost hs 2) ≤ inner_cost hs 2
    by_line true = omega (arith, inner_more hs 2)
    by_line false = omega arith

select_fits : (hs : List Hop) (kind : MuxKind) → is_arbitrator kind ≡ false → select_of hs kind ≤ inner_cost hs 2
select_fits hs kind e = by_facts (is_gpio kind) (is_arbitrator kind) e
  where
    by_facts : (by_line asks : Bool) → asks ≡ false → cond by_line 1 (inner_cost hs (2 * (1 + cond asks POLLS 0))) ≤ inner_cost hs 2
    by_facts true asks e = omega (arith, inner_more hs 2)
    by_facts false false e = omega arith
    by_facts false true e = absurd (let f : true ≡ false = e in cc)

parent_fits : (hs : List Hop) (kind : MuxKind) (own : ℕ)
    → inner_cost hs 2 + (select_of hs kind + (own + off_cost hs kind)) ≤ behind_cost kind (inner_cost hs 2) own
parent_fits hs kind own = by_facts (is_gpio kind) (is_arbitrator kind)
  where
    by_facts : (by_line asks : Bool)
        → inner_cost hs 2 + (cond by_line 1 (inner_cost hs (2 * (1 + cond asks POLLS 0))) + (own + cond by_line 1 (inner_cost hs 2))) ≤
        behind_by by_line asks (inner_cost hs 2) own
    by_facts true asks = omega arith
    by_facts false true = omega (arith, inner_more hs 2, inner_more hs 18)
    by_facts false false = omega arith

abbrev part_cost : BoardView → Bool → ℕ → List Hop → Job → ℕ
part_cost b true root hs job = path_cost b hs job
part_cost b false root hs job = 2 * length (locks_of root hs) + path_cost b hs job

part_within : (b : BoardView) (t : Bool) (root : ℕ) (hs : List Hop) (on : Doer) → DoerWithin b (path_cost b hs) on
    → DoerWithin b (part_cost b t root hs) (part t (locks_of root hs) on)
part_within b true root hs on sub = sub
part_within b false root hs on sub = locked_within b (locks_of root hs) on (path_cost b hs) sub

-- behind one mux: its cost counts all four parts
mux_within : (b : BoardView) (root : ℕ) (h : Hop) (hs : List Hop) (t : Bool) → h.parent ≡ t
    → (is_arbitrator h.kind ≡ true → h.parent ≡ true) → DoerWithin b (part_cost b t root hs) (part t (locks_of root hs) (inner b root hs))
    → (job : Job) (note : Note) (k : JobOutcome → WalkTree) (n : ℕ) → is_line job ≡ false → ((o : JobOutcome) → IsWithin b (k o) n)
    → IsWithin b (behind b h (part t (locks_of root hs) (inner b root hs)) job note k) (inner_cost (h ∷ hs) (job_weight b job) + n)
mux_within b root h hs true parent passed sub job note k n no_line goes_on =
    within_more b (behind b h (inner b root hs) job note k)
    (inner_cost hs 2 + (path_cost b hs (Select h) + (path_cost b hs job + (path_cost b hs (SwitchOff (Deselect h)) + n))))
    (inner_cost (h ∷ hs) (job_weight b job) + n)
    (omega (arith, parent_fits hs h.kind (inner_cost hs (job_weight b job)), select_is b hs h, own_steps, all))
    (behind_within b h (inner b root hs) (path_cost b hs) sub (inner_cost hs 2) (λ m. off_fits hs (kind_of b m)) job note k n goes_on)
  where
    own_steps : path_cost b hs job ≡ inner_cost hs (job_weight b job)
    own_steps = ap (λ (t : Bool). cond t 1 (inner_cost hs (job_weight b job))) no_line

    all : inner_cost (h ∷ hs) (job_weight b job) ≡ behind_cost h.kind (inner_cost hs 2) (inner_cost hs (job_weight b job))
    all = ap (λ (t : Bool). cond t (behind_cost h.kind (inner_cost hs 2) (inner_cost hs (job_weight b job)))
        (3 * (lock_steps hs + inner_cost hs 2) + (lock_steps hs + inner_cost hs (job_weight b job)))) parent
mux_within b root h hs false parent passed sub job note k n no_line goes_on =
    within_more b (behind b h (locked (locks_of root hs) (inner b root hs)) job note k)
    ((2 * length (locks_of root hs) + inner_cost hs 2) +
    ((2 * length (locks_of root hs) + path_cost b hs (Select h)) +
    ((2 * length (locks_of root hs) + path_cost b hs job) +
    ((2 * length (locks_of root hs) + path_cost b hs (SwitchOff (Deselect h))) + n))))
    (inner_cost (h ∷ hs) (job_weight b job) + n)
    (omega (arith, same_locks root hs, select_fits hs h.kind no_arbitrator, select_is b hs h, off_fits hs h.kind, own_steps, all))
    (behind_within b h (locked (locks_of root hs) (inner b root hs)) (λ j. 2 * length (locks_of root hs) + path_cost b hs j) sub
    (2 * length (locks_of root hs) + inner_cost hs 2)
    (λ m. omega (arith, off_fits hs (kind_of b m))) job note k n goes_on)
  where
    own_steps : path_cost b hs job ≡ inner_cost hs (job_weight b job)
    own_steps = ap (λ (t : Bool). cond t 1 (inner_cost hs (job_weight b job))) no_line

    all : inner_cost (h ∷ hs) (job_weight b job) ≡ 3 * (lock_steps hs + inner_cost hs 2) +
        (lock_steps hs + inner_cost hs (job_weight b job))
    all = ap (λ (t : Bool). cond t (behind_cost h.kind (inner_cost hs 2) (inner_cost hs (job_weight b job)))
        (3 * (lock_steps hs + inner_cost hs 2) + (lock_steps hs + inner_cost hs (job_weight b job)))) parent

    no_arbitrator : is_arbitrator h.kind ≡ false
    no_arbitrator = by_kind (is_arbitrator h.kind) refl
      where
        by_kind : (t : Bool) → is_arbitrator h.kind ≡ t → is_arbitrator h.kind ≡ false
        by_kind true e = absurd (let f : true ≡ false = sym (passed e) ∙ parent in cc)
        by_kind false e = e

-- THE HOPS: the induction over them
inner_within : (b : BoardView) (root : ℕ) (hs : List Hop) → ArbitratorsArePassed hs → DoerWithin b (path_cost b hs) (inner b root hs)
inner_within b root [] passed = bus_within b
inner_within b root (h ∷ hs) passed =
    λ job note k n goes_on.
    by_line job note k n goes_on (is_line job) refl
    (mux_within b root h hs h.parent refl (passed h (inl refl))
    (part_within b h.parent root hs (inner b root hs) (inner_within b root hs (λ g a. passed g (inr a)))) job note k n)
  where
    by_line : (job : Job) (note : Note) (k : JobOutcome → WalkTree) (n : ℕ) → ((o : JobOutcome) → IsWithin b (k o) n) → (t : Bool)
        → is_line job ≡ t
        → (is_line job ≡ false → ((o : JobOutcome) → IsWithin b (k o) n)
        → IsWithin b (behind b h (part h.parent (locks_of root hs) (inner b root hs)) job note k)
        (inner_cost (h ∷ hs) (job_weight b job) + n))
        → IsWithin b (cond t (at_bus job note k) (behind b h (part h.parent (locks_of root hs) (inner b root hs)) job note k))
        (cond t 1 (inner_cost (h ∷ hs) (job_weight b job)) + n)
    by_line job note k n goes_on true e sub =
        within_more b (at_bus job note k) (bus_weight b job + n) (1 + n)
        (let one : bus_weight b job ≡ 1 = ap (λ (t : Bool). cond t 1 (job_weight b job)) e in omega (arith, one))
        (bus_within b job note k n goes_on)
    by_line job note k n goes_on false e sub = sub e goes_on

-- on an accepted board arbitrators are parent-locked
arbitrators_passed : (b : BoardView) → IsTree b → MeetsRules b → (s : ℕ) → ArbitratorsArePassed (hops b s)
arbitrators_passed b tree rules s h among arbitrator =
    let hop : IsHop b h = tree.hop s h among in
    let spec = mux_at b h.mux h.kind hop.kind in
    let wrong : (wants_parent spec.0.kind && not (is_parent spec.0.lock)) ≡ false =
    sym (ap (λ (o : Option MuxSpec). unwrap_or (option_map (λ (x : MuxSpec). wants_parent x.kind && not (is_parent x.lock)) o) false)
    spec.1) ∙ rules.parents h.mux hop.mux in
    let wants : wants_parent spec.0.kind ≡ true = ap wants_parent spec.2 ∙ (arbitrator_row h.kind arbitrator).wants_parent in
    let same : Some (is_parent spec.0.lock) ≡ Some h.parent =
    sym (ap (λ (o : Option MuxSpec). unwrap_or (option_map (λ (x : MuxSpec). Some (is_parent x.lock)) o) None) spec.1) ∙ hop.parent in
    sym (same_Some (is_parent spec.0.lock) h.parent same) ∙ wanted (wants_parent spec.0.kind) (is_parent spec.0.lock) wants wrong

-- WHAT THE MESSAGES of a transfer weigh
abbrev weight_of : ℕ → List MessageView → ℕ
weight_of limit [] = 0
weight_of limit (m ∷ ms) = 1 + bytes_most limit m + weight_of limit ms

-- the induction over the messages that follow one
calls_weigh : (b : BoardView) (bus : ℕ) (ms before : List MessageView) (y : MessageView) (rest : List MessageView) → ms ≡ before ++ y ∷ rest
    → weight_from b (Call bus ms) (length rest) ≡ weight_of (block_limit b) (y ∷ rest)
calls_weigh b bus ms before y [] all =
    let e : bytes_most (block_limit b) (nth_message ms (length ms - 1 - 0)) ≡ bytes_most (block_limit b) y = ap (bytes_most (block_limit b))
    (nth-next ms before y [] 0 all refl) in
    omega (arith, e)
calls_weigh b bus ms before y (z ∷ zs) all =
    let e : bytes_most (block_limit b) (nth_message ms (length ms - 1 - suc (length zs))) ≡ bytes_most (block_limit b) y =
    ap (bytes_most (block_limit b)) (nth-next ms before y (z ∷ zs) (suc (length zs)) all refl) in
    let more : weight_from b (Call bus ms) (length zs) ≡ weight_of (block_limit b) (z ∷ zs) = calls_weigh b bus ms (before ++ y ∷ []) z zs
    (all ∙ sym (append_assoc before (y ∷ []) (z ∷ zs))) in
    omega (arith, e, more)

-- a message asks for no more bytes than its weight counts
pub asks-less : (limit : ℕ) (m : MessageView) → m.len ≤ bytes_most limit m
asks-less limit m = by_count m.counted
  where
    by_count : (t : Bool) → m.len ≤ cond t (limit + m.len) m.len
    by_count true = omega arith
    by_count false = omega arith

messages_weigh : (limit : ℕ) (ms : List Msg) (out : List ℕ)
    → weight_of limit (messages_from ms out) ≡ length ms + sum_by (bytes_of limit) ms
messages_weigh limit [] out = omega arith
messages_weigh limit (m ∷ ms) out =
    let more : weight_of limit (messages_from ms (drop (written_of m) out)) ≡ length ms + sum_by (bytes_of limit) ms =
    messages_weigh limit ms (drop (written_of m) out) in
    omega (arith, more, sum_by-cons (bytes_of limit) m ms)

-- all messages of a transfer, the first one with the others after it
call_weighs : (b : BoardView) (bus : ℕ) (ms : List MessageView) → 0 < length ms → job_weight b (Call bus ms) ≡ weight_of (block_limit b) ms
call_weighs b bus [] some = absurd (omega (arith, some))
call_weighs b bus (m ∷ ms) some =
    ap (λ (i : ℕ). weight_from b (Call bus (m ∷ ms)) i) (let e : length (m ∷ ms) - 1 ≡ length ms = omega arith in e)
    ∙ calls_weigh b bus (m ∷ ms) [] m ms refl

-- THE WALK of a transfer
pub walk-within : (b : BoardView) → IsTree b → MeetsRules b → (t : TransferView) → 0 < length t.msgs
    → IsWithin b (walk_for b t) (cost_of b t - 1)
walk-within b tree rules t some = by_refusal (refusal b t) refl
  where
    by_refusal : (r : Option Errno) → refusal b t ≡ r → IsWithin b (walk_by b t r) (cost_of b t - 1)
    by_refusal (Some e) refused = (0, omega arith, λ out. tt)
    by_refusal None accepted =
        within_more b (full b (root_of b t.bus) (hops b t.bus) (Call t.bus (messages_of t)) plain (λ o. Ends))
        ((2 * length (locks_of (root_of b t.bus) (hops b t.bus)) + inner_cost (hops b t.bus) (job_weight b (Call t.bus (messages_of t)))) +
        0) (cost_of b t - 1)
        (omega (
          arith,
          same_locks (root_of b t.bus) (hops b t.bus),
          inner_more (hops b t.bus)
              (job_weight b (Call t.bus (messages_of t))),
          inner_more (hops b t.bus) (steps_of b t),
          all,
          fewer,
        ))
        (locked_within b (locks_of (root_of b t.bus) (hops b t.bus)) (inner b (root_of b t.bus) (hops b t.bus)) (path_cost b (hops b t.bus))
        (inner_within b (root_of b t.bus) (hops b t.bus) (arbitrators_passed b tree rules t.bus)) (Call t.bus (messages_of t)) plain
        (λ o. Ends) 0 (λ o. tt))
      where
        all : cost_of b t ≡ 1 + (lock_steps (hops b t.bus) + inner_cost (hops b t.bus) (steps_of b t))
        all = ap (λ (x : Bool). cond x (1 + full_cost (hops b t.bus) (steps_of b t)) 1) (refusal-none b t accepted).0

        fewer : job_weight b (Call t.bus (messages_of t)) ≤ steps_of b t
        fewer =
            let count : length (messages_of t) ≡ length t.msgs = length-messages t.msgs t.out in
            let own : job_weight b (Call t.bus (messages_of t)) ≡ weight_of (block_limit b) (messages_of t) = call_weighs b t.bus
            (messages_of t) (omega (arith, count, some)) in
            omega (arith, own, messages_weigh (block_limit b) t.msgs t.out)
