-- The caller's messages in a walk are those of its transfer, and each select on the way to them is on its path.
use Rattle.bus_laws.proofs.Cited.{◌≡◌, ◌<◌, false, true, length, refl, LockId, BoardView, TransferView, Hop, hops, IsAmongHops, Job, Note}
use Rattle.bus_laws.proofs.Cited.{WalkTree, Ends, Look, Then, Slots, answer_to, walk_for, seen, IsGranted, CallsOf}
use Rattle.bus_laws.specs.Calls.{IsOnWay}
use Rattle.bus_laws.proofs.walk.Keeps.{GoesOver, GoesOverHop, walk-keeps}

-- what a job needs: it is granted, and on the way
abbrev IsOwn : BoardView → TransferView → Job → Note → Type 0
IsOwn b t job note = IsGranted b t job × IsOnWay b t note job

abbrev pub AnyLock : LockId → Type 0
AnyLock l = Unit {0}

steps : (b : BoardView) (t : TransferView) → GoesOver (λ n. CallsOf b t) (IsOwn b t) AnyLock
steps b t = record {
  settle = λ n verdict w h out. h;
  send = λ n job left note next own h. (own.0, own.1, h);
  shift = λ n job note next line own h. (own.1, h);
  take = λ n l next own h. h;
  free = λ n l next own h. h;
}

hop_steps : (b : BoardView) (t : TransferView) (h : Hop) → IsAmongHops h (hops b t.bus)
    → GoesOverHop b (λ n. CallsOf b t) (IsOwn b t) AnyLock h
hop_steps b t h among = record {
  lock = tt;
  mark = λ n next keeps. keeps;
  kept = λ n next keeps. keeps;
  select = λ job note own. (tt, λ f. ((own.1 f).0, among));
  close = λ job note m own. (tt, λ f. ((own.1 f).0, tt));
  deselect = (tt, λ f. absurd (let g : false ≡ true = f in cc));
}

-- the walk of a transfer sends its messages
pub walk-calls : (b : BoardView) (t : TransferView) → 0 < length t.msgs → CallsOf b t (walk_for b t)
walk-calls b t some =
    walk-keeps b (λ n. CallsOf b t) (IsOwn b t) AnyLock (steps b t) t tt
    (λ at. (record { same_bus = refl; same_messages = refl; not_refused = at; some_message = some }, λ f. (at, tt))) (λ at. tt)
    (λ at h among. hop_steps b t h among)

-- the looks in front of a walk change nothing
pub calls_seen : (b : BoardView) (t : TransferView) (slots : Slots) (w : WalkTree) → CallsOf b t w → CallsOf b t (seen slots w)
calls_seen b t slots Ends h = tt
calls_seen b t slots (Look ask next) h = calls_seen b t slots (next (answer_to slots ask)) (h (answer_to slots ask))
calls_seen b t slots (Then act note next) h = h
