use Rattle.bus_lines.proofs.Cited.{◌≡◌, ◌/◌, ◌&&◌, ◌||◌, ℕ, List, [], length, get_or, sym, ap, ◌∙◌, subst, Bit, where_joined, NodeState}
use Rattle.bus_lines.proofs.Cited.{Other, Address, seen, joined_at, AreNumbers, is_among, by_number, to_those}
use Rattle.bus_lines.proofs.CalledLemmas.{and_again, told_to_joined}
use Rattle.bus_lines.proofs.NumberedLemmas.{numbered_twice, length-numbered}
use Rattle.bus_lines.proofs.message.call.Goals as goal

pub tell-requires-2 : goal.tell-requires-2
tell-requires-2 c =
    let bs = c.args.bits.now.items in
    let byte = c.args.byte in
    let count : length c.tell.new.targets.items ≡ length bs =
    ap length c.tell.ensures.targets ∙ length-numbered (to_those c.as_slice.result.now (where_joined (seen (Other byte)))) 0 bs in
    subst (λ (n : ℕ). AreNumbers n c.args.called.now) (sym count) c.requires.numbers

pub returns-clause-live : goal.returns-clause-live
returns-clause-live c = λ k.
    let named = is_among (get_or c.args.at.now (c.args.byte / 2) []) k in
    let joined = joined_at c.args.bits.now.items k in
    c.add_joined.ensures.among k
    ∙ ap (λ xs. is_among c.args.live.now.items k || (is_among c.args.called.now k && joined_at xs k)) c.deref.ensures.value
    ∙ ap (λ t. is_among c.args.live.now.items k || t) (ap (λ t. t && joined) (c.requires.called k) ∙ and_again named joined)

pub returns-clause-started : goal.returns-clause-started
returns-clause-started c = λ k.
    let named = is_among (get_or c.args.at.now (c.args.byte / 2) []) k in
    let joined = joined_at c.args.bits.now.items k in
    c.add_joined-2.ensures.among k
    ∙ ap (λ xs. is_among c.args.started.now.items k || (is_among c.args.called.now k && joined_at xs k)) c.deref-2.ensures.value
    ∙ ap (λ t. is_among c.args.started.now.items k || t) (ap (λ t. t && joined) (c.requires.called k) ∙ and_again named joined)

pub returns-clause-bits : goal.returns-clause-bits
returns-clause-bits c =
    let bs = c.args.bits.now.items in
    let byte = c.args.byte in
    let called = c.args.called.now in
    let named = get_or c.args.at.now (byte / 2) [] in
    let started = c.add_joined-2.new.list.items in
    let other = where_joined (seen (Other byte)) in
    let address = where_joined (seen (Address byte)) in
    c.tell-2.ensures.targets
    ∙ ap (λ (cs : List (Bit NodeState)). by_number (to_those called address) 0 cs)
    (c.tell.ensures.targets ∙ ap (λ ns. by_number (to_those ns other) 0 bs) c.as_slice.ensures.value)
    ∙ told_to_joined (seen (Address byte)) bs named called c.requires.called (Other byte) tt started
    ∙ numbered_twice (to_those started other) (to_those named address) 0 bs
