use Rattle.dev_handle.proofs.StoredLemmas.{open_has_key}
use Rattle.dev_handle.proofs.handles.Handles.put.Goals as goal

pub write_at-requires : goal.write_at-requires
write_at-requires c =
    let own = c.self.inside in
    open_has_key own.slab own.keys.items c.args.number c.index-key.result.now c.index-key.ensures (rw c.self.view_is c.requires)
