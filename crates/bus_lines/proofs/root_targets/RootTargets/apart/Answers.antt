use Rattle.bus_lines.proofs.Cited.{◌≡◌, ℕ, zero, suc, Bool, true, false, cond, List, [], ◌∷◌, map, refl, sym, ap, ◌∙◌, Site, Bit, NodeState}
use Rattle.bus_lines.proofs.Cited.{Rooted, apart_of, whole_on, known_on, TargetsView, shared}
use Rattle.bus_lines.proofs.root_targets.RootTargets.apart.Goals as goal

-- what has come of an address byte is nothing to the sites
shared_either : (joined : Bool) (b c : Bit NodeState) → c.site ≡ b.site → (cond joined c b).site ≡ b.site
shared_either true b c same = same
shared_either false b c same = refl

shared_site : (left v : ℕ) (b : Bit NodeState) → (shared left v b).site ≡ b.site
shared_site zero v b = refl
shared_site (suc n) v b = shared_either b.site.joined b _ refl

shared_sites : (left v : ℕ) (bs : List (Bit NodeState))
    → map {A = Bit NodeState} (λ (b : Bit NodeState). b.site) (map (shared left v) bs) ≡ map {A = Bit NodeState}
    (λ (b : Bit NodeState). b.site) bs
shared_sites left v [] = refl
shared_sites left v (b ∷ bs) = let head = shared_site left v b in let rest = shared_sites left v bs in cc

pub returns : goal.returns
returns c =
    let i = c.self.inside in
    let k : Rooted = record { board = i.board.value; root = i.root } in
    c.of.ensures
    ∙ ap (λ (xs : List (Bit NodeState)). apart_of k (whole_on i.board.value i.places.items xs))
    (c.refresh_all.ensures ∙ ap (λ ps. known_on ps i.bits.items) c.as_slice.ensures.value)
    ∙ ap (λ (ss : List (Site NodeState)). record { rooted = k; sites = ss })
    (sym (shared_sites i.address.left i.address.value (whole_on i.board.value i.places.items (known_on i.places.items i.bits.items))))
    ∙ ap (λ (t : TargetsView). apart_of t.rooted t.bits) c.self.view_is
