-- What the walks of a legal journal tell of each step of a caller: it is the next step of the walk under way, or the
-- first one of the next walk. A journal that breaks the order of a walk is refused by this alone. The inductions go
-- over the steps of a walk, and over the walks.
use Rattle.journal_laws.proofs.Cited.{◌≡◌, ℕ, Bool, true, false, cond, List, [], ◌∷◌, ◌++◌, Option, Some, refl, sym, ◌∙◌, ap, subst}
use Rattle.journal_laws.proofs.Cited.{append_assoc, append-nil, Entry, End, Purpose, Reply, BoardView, TransferView, Job, Act, Send, Shift}
use Rattle.journal_laws.proofs.Cited.{WalkTree, Ends, Look, Then, job_bus, job_purpose, part_of, parts_of, message_of, line_mux, line_level}
use Rattle.journal_laws.proofs.Cited.{walk_for, seen, is_over, rest_of, Now, begun, talk_of, MessageEntry, TellsMessage, Tells, outcome_of}
use Rattle.journal_laws.proofs.Cited.{Step, replies_in, AreTransfers, transfers-walks, Leads, AreWalks, none, whole, front, reply_at}
use Rattle.journal_laws.proofs.Cited.{replies_first}
use Rattle.i2c_base.specs.declared.entry.Purpose.TheVariants as purpose
use Rattle.bus_spec.specs.Tells.{TellsLine}
use Rattle.flat_laws.proofs.past.Walks.{tells_none}

-- what a message of the next step tells before it is sent: where it goes, why, which part it is of how many, and its
-- direction
pub record Head : Type 0 where
  pub bus : ℕ
  pub purpose : Purpose
  pub part : ℕ
  pub parts : ℕ
  pub addr : ℕ
  pub reading : Bool

abbrev pub head_in : MessageEntry → Head
head_in m = record { bus = m.bus; purpose = m.purpose; part = m.part; parts = m.parts; addr = m.addr; reading = m.reading }

-- nothing is sent by a step that is no message
abbrev pub no_head : Head
no_head = record { bus = 0; purpose = purpose.Call; part = 0; parts = 0; addr = 0; reading = false }

abbrev pub head_by : BoardView → Option Act → Head
head_by b (Some (Send job left)) =
    record {
      bus = job_bus job;
      purpose = job_purpose job;
      part = part_of job left;
      parts = parts_of job;
      addr = (message_of b job left).addr;
      reading = (message_of b job left).reading;
    }
head_by b first = no_head

same_head : (m : MessageEntry) (bus : ℕ) (why : Purpose) (part parts addr : ℕ) (reading : Bool) → m.bus ≡ bus → m.purpose ≡ why
    → m.part ≡ part → m.parts ≡ parts → m.addr ≡ addr → m.reading ≡ reading
    → head_in m ≡ record { bus = bus; purpose = why; part = part; parts = parts; addr = addr; reading = reading }
same_head m bus why part parts addr reading same_bus same_why same_part same_parts same_addr same_reading = cc

-- a message has the head of the one that the walk sends next
pub head-told : (b : BoardView) (n : Now) (first : Option Act) (job : Job) (left : ℕ) (m : MessageEntry) → first ≡ Some (Send job left)
    → TellsMessage b n job left m
    → head_in m ≡ head_by b first
head-told b n first job left m next tells =
    same_head m (job_bus job) (job_purpose job) (part_of job left) (parts_of job) (message_of b job left).addr
    (message_of b job left).reading
    tells.on_bus tells.for_purpose tells.as_part tells.of_parts tells.to_addr tells.in_direction
    ∙ sym (ap (λ (o : Option Act). head_by b o) next)

-- a line step is that of the job that the walk shifts next
abbrev pub level_by : Option Act → ℕ × ℕ
level_by (Some (Shift job)) = (line_mux job, line_level job)
level_by first = (0, 0)

pub level-told : (first : Option Act) (job : Job) (mux level : ℕ) → first ≡ Some (Shift job) → TellsLine job mux level
    → (mux, level) ≡ level_by first
level-told first job mux level next tells =
    ap (λ (m : ℕ). (m, level)) tells.of_mux ∙ ap (λ (l : ℕ). (line_mux job, l)) tells.to_level ∙ sym (ap level_by next)

-- the bytes of a message are those of the one that the walk sends next
abbrev pub bytes_by : BoardView → Now → End → Option Act → List ℕ
bytes_by b n e (Some (Send job left)) = (talk_of b n job left e).bytes
bytes_by b n e first = []

pub bytes-told : (b : BoardView) (n : Now) (e : End) (first : Option Act) (job : Job) (left : ℕ) (bytes : List ℕ)
    → first ≡ Some (Send job left) → bytes ≡ (talk_of b n job left e).bytes → bytes ≡ bytes_by b n e first
bytes-told b n e first job left bytes next told = told ∙ ap (bytes_by b n e) (sym next)

module _ (b : BoardView) (asks : List Reply → Option TransferView) where
  -- the walk that the next step is of: the one under way, or that of what is asked for after these replies
  abbrev pub at_hand : List Reply → WalkTree → WalkTree
  at_hand rs w = cond (is_over w) (begun b (asks rs)) w

  -- each of these steps is the next one of the walk that it is of
  abbrev pub Follow : List Reply → WalkTree → List Step → Type 0
  Follow rs w [] = Unit {0}
  Follow rs w (s ∷ ss) =
      Tells b s.before (seen s.before.slot (at_hand rs w)) s.entry
      × Follow (rs ++ reply_at s.entry) (rest_of (seen s.before.slot (at_hand rs w)) (outcome_of s.entry)) ss

  -- a walk that has a step more is not over
  pub under-way : (w : WalkTree) (rs : List Reply) (n : Now) (e : Entry) → Tells b n (seen n.slot w) e → at_hand rs w ≡ w
  under-way Ends rs n e tells = absurd (tells_none b n e tells)
  under-way (Look ask next) rs n e tells = refl
  under-way (Then done note next) rs n e tells = refl

  -- one step, of a walk that is another name of the one at hand
  renamed : (rs : List Reply) (w u : WalkTree) (steps : List Step) → at_hand rs u ≡ at_hand rs w → Follow rs u steps → Follow rs w steps
  renamed rs w u [] same follow = tt
  renamed rs w u (s ∷ ss) same follow =
      subst
      (λ (x : WalkTree).
      Tells b s.before (seen s.before.slot x) s.entry
      × Follow (rs ++ reply_at s.entry) (rest_of (seen s.before.slot x) (outcome_of s.entry)) ss)
      same follow

  -- the steps of a walk, and after them those that follow what is left of it
  led-follow : (rs : List Reply) (w left : WalkTree) (mine rest : List Step) → Leads b w mine left
      → Follow (rs ++ replies_in mine) left rest → Follow rs w (mine ++ rest)
  led-follow rs w left [] rest leads follow =
      subst (λ (x : WalkTree). Follow rs x rest) leads (subst (λ (xs : List Reply). Follow xs left rest) (append-nil rs) follow)
  led-follow rs w left (s ∷ mine) rest leads follow =
      subst
      (λ (x : WalkTree).
      Tells b s.before (seen s.before.slot x) s.entry
      × Follow (rs ++ reply_at s.entry) (rest_of (seen s.before.slot x) (outcome_of s.entry)) (mine ++ rest))
      (sym (under-way w rs s.before s.entry leads.0)) (
        leads.0,
        led-follow (rs ++ reply_at s.entry) (rest_of (seen s.before.slot w) (outcome_of s.entry)) left mine rest leads.1
            (subst (λ (xs : List Reply). Follow xs left rest) so_far follow),
      )
    where
      so_far : rs ++ replies_in (s ∷ mine) ≡ (rs ++ reply_at s.entry) ++ replies_in mine
      so_far = ap (λ (xs : List Reply). rs ++ xs) (replies_first s.before s.deed s.entry mine)
          ∙ sym (append_assoc rs (reply_at s.entry) (replies_in mine))

  -- a walk that begins is the one at hand
  pub begins : (rs : List Reply) (t : TransferView) → asks rs ≡ Some t → at_hand rs (walk_for b t) ≡ at_hand rs Ends
  begins rs t asked = by (is_over (walk_for b t)) ∙ sym first
    where
      first : begun b (asks rs) ≡ walk_for b t
      first = ap (λ (o : Option TransferView). begun b o) asked

      by : (over : Bool) → cond over (begun b (asks rs)) (walk_for b t) ≡ walk_for b t
      by true = first
      by false = refl

  -- the steps of a caller's walks
  pub walks-follow : (rs : List Reply) (steps : List Step) → AreWalks b asks rs steps → Follow rs Ends steps
  walks-follow rs steps (none xs) = tt
  walks-follow rs steps (whole xs t mine rest all r asked leads settles more parts) =
      subst (λ (ss : List Step). Follow xs Ends ss) (sym parts)
      (renamed xs Ends (walk_for b t) (mine ++ rest) (begins xs t asked)
      (led-follow xs (walk_for b t) Ends mine rest leads
      (subst (λ (rs : List Reply). Follow (xs ++ rs) Ends rest) (sym settles) (walks-follow (xs ++ r ∷ []) rest more))))
  walks-follow rs steps (front xs t mine left asked leads not_due) =
      renamed xs Ends (walk_for b t) mine (begins xs t asked)
      (subst (λ (ss : List Step). Follow xs (walk_for b t) ss) (append-nil mine) (led-follow xs (walk_for b t) left mine [] leads tt))

  pub transfers-follow : (rs : List Reply) (steps : List Step) → AreTransfers b asks rs steps → Follow rs Ends steps
  transfers-follow rs steps transfers = walks-follow rs steps (transfers-walks b asks rs steps transfers)
