-- A refused lookup leaves the lent output as it was. Assumes nothing.
use Prim.Native.Nat.{ℕ, ◌/◌}
use mathlib.Core.Path.{◌≡◌, refl}
use mathlib.Core.List.{List}
use native.Mathlib.Omega.{arith}
use lib.ListN.{take}
use Rattle.page.specs.Size.{page_size}
use Rattle.catalog.specs.Lookup.{Looking, found, absent, refused, find_of, hand_found, lookup_of}
use Rattle.catalog.specs.declared.state.State.{State}
use Rattle.demands.proofs.Output.{hand_refused}

found_keeps : (log out : List ℕ) (r : Looking) (number value : ℕ) → (hand_found log out r).answer ≡ refused number value → (hand_found log out r).out ≡ out
unfolding hand_found
found_keeps log out (found position len) number value e =
    hand_refused refused (found position len) log (position / page_size) len out number value (λ f. let z : ◌≡◌ {A = ℕ} 0 1 = cc in omega arith) e
found_keeps log out (absent position) number value e = refl
found_keeps log out (refused n v) number value e = refl

pub refused_lookup_keeps : (store : List ℕ) (st : State) (id : ℕ) (out : List ℕ) (number value : ℕ) → (lookup_of store st id out).answer ≡ refused number value → (lookup_of store st id out).out ≡ out
unfolding lookup_of
refused_lookup_keeps store st id out = found_keeps (take st.length store) out (find_of store st id)
