-- What is so of every job of a walk. The inductions go over the messages of a job, over locks, and over hops.
use Rattle.bus_laws.proofs.Cited.{◌≡◌, ℕ, ◌<◌, List, [], ◌∷◌, Option, None, refl, sym, ◌∙◌, ap, subst, inl, inr, arith, unwrap_or}
use Rattle.bus_laws.proofs.Cited.{option_map, ltb-true, MuxSpec, Pca9548, BoardView, TransferView, Hop, hops, buses, IsAmongHops, IsTree}
use Rattle.bus_laws.proofs.Cited.{messages_of, refusal, Job, Call, Select, SwitchOff, Deselect, Close, Take, Free, Send, Shift, Settle}
use Rattle.bus_laws.proofs.Cited.{WalkTree, Ends, Look, Then, kind_of, walk_for, EachJob}
use Rattle.bus_laws.specs.Jobs.{IsJobOf}
use Rattle.bus_laws.proofs.walk.Keeps.{walk-keeps}
use Rattle.bus_laws.proofs.world.BoardFacts.{mux_at}
use Rattle.bus_laws.proofs.tree.Law.{refusal-none}

-- it is so of what switches a hop: its select, its deselect, and the close of a mux that is marked on its bus
pub record Switches (b : BoardView) (P : Job → Type 0) (h : Hop) : Type 0 where
  pub select : P (Select h)
  pub deselect : P (SwitchOff (Deselect h))
  pub close : (m : ℕ) → P (SwitchOff (Close h.on m (kind_of b m)))

-- of every job of a transfer's walk: if it is so of the transfer's messages, and of what switches the hops of its path
pub walk-jobs : (b : BoardView) (P : Job → Type 0) (t : TransferView) → (refusal b t ≡ None → P (Call t.bus (messages_of t)))
    → (refusal b t ≡ None → (g : Hop) → IsAmongHops g (hops b t.bus) → Switches b P g) → EachJob P (walk_for b t)
walk-jobs b P t call switches =
    walk-keeps b (λ n. EachJob P) (λ job note. P job) (λ l. Unit {0})
    (record {
      settle = λ n verdict w h out. h;
      send = λ n job left note next own h. (own, h);
      shift = λ n job note next line own h. (line, own, h);
      take = λ n l next own h. h;
      free = λ n l next own h. h;
    }) t tt call (λ at. tt)
    (λ at h among. record {
      lock = tt;
      mark = λ n next keeps. keeps;
      kept = λ n next keeps. keeps;
      select = λ job note own. (switches at h among).select;
      close = λ job note m own. (switches at h among).close m;
      deselect = (switches at h among).deselect;
    })

-- THE BUSES of a path: each comes before the one below it
pub hop_before : (b : BoardView) → IsTree b → (hs : List Hop) (s : ℕ) → hops b s ≡ hs → (g : Hop) → IsAmongHops g hs → g.on < s
hop_before b tree [] s at g among = absurd among
hop_before b tree (h ∷ hs) s at g among =
    let leads : (h.bus ≡ s) × (h.on < s) = tree.leads s h hs at in
    elim among [
      | inl same ↦ subst (λ (x : Hop). x.on < s) (sym same) leads.1
      | inr more ↦ (let less : g.on < h.on = hop_before b tree hs h.on (tree.tail s h hs at) g more in omega (arith, less, leads.1))
    ]

-- a hop's mux is of the kind that the board says
pub hop_kind : (b : BoardView) → IsTree b → (s : ℕ) (h : Hop) → IsAmongHops h (hops b s) → kind_of b h.mux ≡ h.kind
hop_kind b tree s h among =
    let spec = mux_at b h.mux h.kind (tree.hop s h among).kind in
    ap (λ (o : Option MuxSpec). unwrap_or (option_map (λ (x : MuxSpec). x.kind) o) Pca9548) spec.1 ∙ spec.2

-- THE ROOT of a walk
pub walk-stays : (b : BoardView) → IsTree b → (t : TransferView) → EachJob (IsJobOf b t) (walk_for b t)
walk-stays b tree t =
    walk-jobs b (IsJobOf b t) t (λ accepted. record { there = below accepted; rooted = refl })
    (λ accepted g among.
    let there : g.on < buses b = (let less : g.on < t.bus = hop_before b tree (hops b t.bus) t.bus refl g among in
    omega (arith, less, below accepted)) in
    record {
      select = record { there = there; rooted = tree.root_same t.bus g among };
      deselect = record { there = there; rooted = tree.root_same t.bus g among };
      close = λ m. record { there = there; rooted = tree.root_same t.bus g among };
    })
  where
    below : refusal b t ≡ None → t.bus < buses b
    below accepted = ltb-true t.bus (buses b) (refusal-none b t accepted).0

-- what is so of each job in two ways
pub jobs-both : (P Q R : Job → Type 0) → ((job : Job) → P job → Q job → R job) → (w : WalkTree) → EachJob P w → EachJob Q w → EachJob R w
jobs-both P Q R both Ends p q = tt
jobs-both P Q R both (Look ask next) p q = λ m. jobs-both P Q R both (next m) (p m) (q m)
jobs-both P Q R both (Then (Take l) note next) p q = λ out. jobs-both P Q R both (next out) (p out) (q out)
jobs-both P Q R both (Then (Free l) note next) p q = λ out. jobs-both P Q R both (next out) (p out) (q out)
jobs-both P Q R both (Then (Send job left) note next) p q = (both job p.0 q.0, λ out. jobs-both P Q R both (next out) (p.1 out) (q.1 out))
jobs-both P Q R both (Then (Shift job) note next) p q = (p.0, both job p.1 q.1, λ out. jobs-both P Q R both (next out) (p.2 out) (q.2 out))
jobs-both P Q R both (Then (Settle verdict) note next) p q = λ out. jobs-both P Q R both (next out) (p out) (q out)
