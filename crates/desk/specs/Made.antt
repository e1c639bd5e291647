-- What is made in new memory, or why it is not.
use Rattle.std.specs.Prelude.{◌≡◌, ℕ, List, Ok, Err, vec_items, Result}
use Rattle.std.specs.Global.{Vec}
use Rattle.site.specs.Refusals.{Refusal, told}
use Rattle.desk.specs.declared.failures.Failure.{Failure}
use Rattle.desk.specs.declared.failures.Failure.TheVariants.{Refused, NoMemory}

-- what is made is so, or memory was wanting; nothing is refused
abbrev pub Done : {T : Type 0} → (T → Type 0) → Result T Failure → Type 0
Done So (Ok x) = So x
Done So (Err (Refused f)) = ⊥
Done So (Err NoMemory) = Unit {0}

-- these bytes, or want of memory
abbrev pub Makes : List ℕ → Result (Vec ℕ) Failure → Type 0
Makes bytes r = Done (λ v. vec_items v ≡ bytes) r

-- what is made shows as this value, or this refusal is the answer; or memory was wanting
abbrev pub Shows : {T U : Type 0} → (T → U) → Result U Refusal → Result T Failure → Type 0
Shows seen answer (Ok x) = Ok (seen x) ≡ answer
Shows seen answer (Err (Refused f)) = Err (told f) ≡ answer
Shows seen answer (Err NoMemory) = Unit {0}

-- these bytes or this refusal; or want of memory
abbrev pub Gives : Result (List ℕ) Refusal → Result (Vec ℕ) Failure → Type 0
Gives bytes r = Shows vec_items bytes r

-- this value or this refusal; or want of memory
abbrev pub Answers : {T : Type 0} → Result T Refusal → Result T Failure → Type 0
Answers answer r = Shows (λ x. x) answer r
