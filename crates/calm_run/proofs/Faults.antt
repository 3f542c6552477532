-- What holds on every fault, or on one.
use Rattle.std.proofs.Common.{Result, Ok, Err, OnErr, IsErrOf, subst}

pub on_each_fault : {T E P : Type 0} (r : Result T E) → P → OnErr r P
on_each_fault (Ok t) p = tt
on_each_fault (Err e) p = p

pub on_this_fault : {T E P : Type 0} (r : Result T E) (e : E) → IsErrOf r e → OnErr r P → P
on_this_fault {T} {E} {P} r e h p = subst (λ (x : Result T E). OnErr x P) h p
