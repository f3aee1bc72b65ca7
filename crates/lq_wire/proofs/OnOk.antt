-- What is so where a call answered Ok.
use Rattle.std.proofs.Common.{Result, Ok, Err, IfOk, OnOk}

pub on-ok : {T E A B : Type 0} (r : Result T E) → OnOk r A → (A → B) → OnOk r B
on-ok (Ok x) a f = f a
on-ok (Err e) a f = a

pub both-ok : {T E A B C : Type 0} (r : Result T E) → OnOk r A → OnOk r B → (A → B → C) → OnOk r C
both-ok (Ok x) a b f = f a b
both-ok (Err e) a b f = a

pub if-ok : {T E : Type 0} {P Q : T → Type 0} (r : Result T E) → IfOk r P → ((x : T) → P x → Q x) → IfOk r Q
if-ok (Ok x) holds f = f x holds
if-ok (Err e) holds f = holds
