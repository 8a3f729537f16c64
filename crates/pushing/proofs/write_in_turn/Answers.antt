-- `write_in_turn` meets its contract: the tests in order, then the pages. Assumes nothing.
use Prim.Native.Nat.{ℕ, ◌*◌}
use mathlib.Core.Path.{refl, sym, ap}
use native.Mathlib.Omega.{arith}
use Rattle.page.specs.Size.{page_size}
use Rattle.pushing.proofs.Laws.Tests.{turn_order, turn_large, turn_full}
use Rattle.pushing.proofs.Laws.Entries.{write_pages}
use Rattle.pushing.proofs.write_in_turn.Goals as goal

pub returns-then-id-last : goal.returns-then-id-last
returns-then-id-last c j = sym (turn_order j _ _ _ (omega arith))

pub returns-then-bytes-ge-DATA_END : goal.returns-then-bytes-ge-DATA_END
returns-then-bytes-ge-DATA_END c j = sym (turn_large j _ _ _ (omega arith) (omega arith))

pub returns-then-room-pages : goal.returns-then-room-pages
returns-then-room-pages c j = sym (turn_full j _ _ _ (omega arith) (omega arith) (omega arith))

pub returns : goal.returns
returns c j =
    let a = c.args in
    let k = ap (λ (n : ℕ). n * page_size) c.pages_for_data-pages.ensures in
    write_pages a.state a.store.now j a.id a.bytes.now (omega arith) (omega arith) _ k (omega arith)
    _ _ c.write_entry.ensures refl _ _ _ c.moved.ensures (omega arith) (omega arith)
