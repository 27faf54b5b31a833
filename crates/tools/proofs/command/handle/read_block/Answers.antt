use Rattle.tools.proofs.Cited.{◌≡◌, ℕ, List, [], Ok, sym, subst, arith, some_bytes, read_at, texts, FaultIs, block_room, Cmd, Handle}
use Rattle.tools.specs.HandleLines.{bproc_bytes}
use Rattle.tools.specs.declared.command.handle.HandleCmd.TheVariants.{Bproc}
use Rattle.tools.proofs.ByteListLemmas.{bytes_read, bytes_refused}
use Rattle.tools.proofs.command.handle.read_block.Goals as goal

pub returns-in-Ok : goal.returns-in-Ok
unfolding bproc_bytes
returns-in-Ok c =
    let made : List ℕ → Cmd = λ bytes. Handle (Bproc c.args.handle c.args.reg bytes) in
    let room : block_room c.args.limit ≡ c.from.result = omega (arith, c.requires.limit, c.from.ensures) in
    subst (λ n. read_at (some_bytes n [] made) (texts c.args.words.now) c.args.at ≡ Ok (made c.read_bytes.new.bytes)) (sym room)
    (bytes_read made c.from.result (texts c.args.words.now) c.args.at _ (rw c.in-Ok.is at c.read_bytes.ensures))

pub returns-in-Err : goal.returns-in-Err
unfolding bproc_bytes
returns-in-Err c =
    let made : List ℕ → Cmd = λ bytes. Handle (Bproc c.args.handle c.args.reg bytes) in
    let room : block_room c.args.limit ≡ c.from.result = omega (arith, c.requires.limit, c.from.ensures) in
    subst (λ n. FaultIs (read_at (some_bytes n [] made) (texts c.args.words.now) c.args.at) c.in-Err.fault) (sym room)
    (bytes_refused made c.from.result (texts c.args.words.now) c.args.at _ (rw c.in-Err.is at c.read_bytes.ensures))
