-- Several records of one kind: one more, and what holds of all of them.
use Rattle.std.proofs.Common.{◌≡◌, ℕ, zero, suc, ◌+◌, ◌*◌, ◌<◌, ◌≤◌, List, [], ◌∷◌, ◌++◌, length, get_or, take, set, Ok, Err, Result, sym, refl, ap, ◌∙◌, subst, mul-zero, mul-suc, add-one, arith}
use Rattle.std.specs.List.{flat_map, AllByRecursion as All}
use Rattle.std.proofs.ByRecursion.{All-push}
use Rattle.std.proofs.lemmas.List.{length_push, append_assoc, take_more, take_all, flat_map_more}
use Rattle.site.specs.Refusals.{Refusal}
use Rattle.site.proofs.Laid.{laid_push, laid_none}
use Rattle.records.specs.Readings.{SeveralDone}
use Rattle.records.specs.Taken.{Found, Several, one_more, several_in}
use Rattle.records.specs.declared.unread.Unread.{Unread}
use Rattle.records.proofs.Answered.{ok_same, and_then_ok, after_ok, after_err, repeated_more, repeated_stops, repeated_keeps}

-- a number of one byte
abbrev pub Byte : ℕ → Type 0
Byte b = b < 256

-- the bytes after others
pub all_after : (xs ys : List ℕ) → All Byte (xs ++ ys) → All Byte ys
all_after [] ys h = h
all_after (x ∷ xs) ys h = all_after xs ys h.1

-- k records that were read, each of which has a property
pub record SeveralSound {T : Type 0} (P : T → Type 0) (k : ℕ) (a : Several T) : Type 0 where
  pub many : length a.items ≡ k
  pub all : All P a.items

-- records that were read from bs, spelled again
pub record SeveralSpelled {T : Type 0} (spell : T → List ℕ) (bs : List ℕ) (a : Several T) : Type 0 where
  pub spelled : bs ≡ flat_map spell a.items ++ a.left
  pub rest : All Byte a.left

module _ {T : Type 0} {taken : ℕ → List ℕ → Result (Found T) Refusal} {width : ℕ} where
  -- no record yet
  pub none_done : (from : Unread) (first : ℕ) (before : List T) → SeveralDone taken width from first before 0 from before
  none_done from first before = record { items = []; many = refl; read = refl; sheet = sym (laid_none first before) }

  -- one record more
  pub one_done : {from mid end : Unread} {first k : ℕ} {before after : List T} (v : T) → SeveralDone taken width from first before k mid after → (taken mid.at mid.bytes.now ≡ Ok (record { what = v; left = end.bytes.now })) × (end.at ≡ mid.at + width) → SeveralDone taken width from first before (k + 1) end (set after (first + k) v)
  one_done {from} {mid} {end} {first} {k} {before} {after} v d (e, at) =
      record {
        items = d.items ++ v ∷ [];
        many = length_push d.items v ∙ ap (λ j. j + 1) d.many;
        read = repeated_more (one_more taken width) k _ _ d.read ∙ (after_ok (taken mid.at mid.bytes.now) (record { what = v; left = end.bytes.now }) _ e ∙ rw at refl);
        sheet = rw (laid_push, ← d.sheet, d.many) refl;
      }

  -- a record that is refused
  pub one_failed : {from mid : Unread} {first k : ℕ} {before after : List T} (count : ℕ) (r : Refusal) → SeveralDone taken width from first before k mid after → taken mid.at mid.bytes.now ≡ Err r → k < count → several_in taken width count from.at from.bytes.now ≡ Err r
  one_failed {from} {mid} {first} {k} {before} {after} count r d e lt =
      repeated_stops (one_more taken width) k count _ _ r d.read (after_err (taken mid.at mid.bytes.now) r _ e) lt

module _ {T : Type 0} (taken : ℕ → List ℕ → Result (Found T) Refusal) (width : ℕ) where
  -- what holds of each record that is taken holds of all of k
  pub several_sound : (P : T → Type 0) → ((at : ℕ) (bs : List ℕ) (f : Found T) → taken at bs ≡ Ok f → P f.what) → (k at : ℕ) (bs : List ℕ) (a : Several T) → several_in taken width k at bs ≡ Ok a → SeveralSound P k a
  several_sound P each k at bs a e =
      repeated_keeps (one_more taken width) (SeveralSound P) (λ j x y s step.
      let p = and_then_ok (taken x.at x.left) _ y step in
      let v = p.0.what in
      let same : x.items ++ v ∷ [] ≡ y.items = ap (λ r. r.items) (ok_same p.2) in
      record {
        many = rw (← same) (length_push x.items v ∙ omega (arith, s.many));
        all = rw (← same) (All-push P x.items v s.all (each x.at x.left p.0 p.1));
      }) k _ a (record { many = refl; all = tt }) e

  -- records each of which is spelled as it was read are spelled so together
  pub several_spelled : (spell : T → List ℕ) → ((at : ℕ) (bs : List ℕ) (f : Found T) → All Byte bs → taken at bs ≡ Ok f → bs ≡ spell f.what ++ f.left) → (k at : ℕ) (bs : List ℕ) (a : Several T) → All Byte bs → several_in taken width k at bs ≡ Ok a → SeveralSpelled spell bs a
  several_spelled spell each k at bs a h e =
      repeated_keeps (one_more taken width) (λ _. SeveralSpelled spell bs) (λ j x y s step.
      let p = and_then_ok (taken x.at x.left) _ y step in
      let v = p.0.what in
      let here : x.left ≡ spell v ++ p.0.left = each x.at x.left p.0 s.rest p.1 in
      let more : flat_map spell x.items ++ spell v ≡ flat_map spell (x.items ++ v ∷ []) = flat_map_more spell [] x.items v in
      subst (SeveralSpelled spell bs) (ok_same p.2) (record {
        spelled = s.spelled ∙ (ap (λ z. flat_map spell x.items ++ z) here ∙ (sym (append_assoc (flat_map spell x.items) (spell v) p.0.left) ∙ ap (λ z. z ++ p.0.left) more));
        rest = all_after (spell v) p.0.left (subst (All Byte) here s.rest);
      })) k _ a (record { spelled = refl; rest = h }) e

  -- records each of which is read back, whatever follows it, are read back together
  module _ (spell : T → List ℕ) (d : T) (xs : List T) (each : (i : ℕ) → i < length xs → (at : ℕ) (z : List ℕ) → taken at (spell (get_or xs i d) ++ z) ≡ Ok (record { what = get_or xs i d; left = z })) where
    first_back : (at i : ℕ) (z : List ℕ) → i ≤ length xs → several_in taken width i at (flat_map spell (take i xs) ++ z) ≡ Ok (record { items = take i xs; at = at + width * i; left = z })
    first_back at zero z le = ap (λ a. Ok (record { items = []; at = a; left = z })) (rw mul-zero (omega arith))
    first_back at (suc i) z le =
        let lt : i < length xs = omega arith in
        let x = get_or xs i d in
        let front : take (suc i) xs ≡ take i xs ++ x ∷ [] = rw (← add-one) (take_more xs i d lt) in
        let bytes : flat_map spell (take (suc i) xs) ++ z ≡ flat_map spell (take i xs) ++ (spell x ++ z) = ap (λ b. b ++ z) (ap (flat_map spell) front ∙ sym (flat_map_more spell [] (take i xs) x)) ∙ append_assoc (flat_map spell (take i xs)) (spell x) z in
        let old = ap (λ bs. several_in taken width i at bs) bytes ∙ first_back at i (spell x ++ z) (omega arith) in
        let place : at + width * i + width ≡ at + width * suc i = rw mul-suc (omega arith) in
        after_ok (several_in taken width i at (flat_map spell (take (suc i) xs) ++ z)) _ (one_more taken width) old
        ∙ (after_ok (taken (at + width * i) (spell x ++ z)) _ _ (each i lt (at + width * i) z) ∙ rw (place, front) refl)

    pub several_back : (at k : ℕ) (z : List ℕ) → length xs ≡ k → several_in taken width k at (flat_map spell xs ++ z) ≡ Ok (record { items = xs; at = at + width * k; left = z })
    several_back at k z long =
        let all : take k xs ≡ xs = take_all k xs (omega arith) in
        let e = first_back at k z (omega arith) in
        rw all at e
