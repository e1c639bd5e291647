-- What the controller cannot hold the floor can block: the complement turns F into G, and covered into open.
use Rattle.std.proofs.Common.{◌≡◌, ℕ, zero, suc, ◌<◌, Bool, true, false, not, ◌&&◌, ◌||◌, sym, refl, ap, ◌∙◌, arith}
use Rattle.site.specs.Arena.{Arena, Lawful}
use Rattle.site.specs.Counting.{every, some}
use Rattle.parts.specs.Moves.{holds, blocks, by_grade}
use Rattle.parts.specs.Regions.{Region, has, region, all, nothing, F, G, iterate, greatest, least, stage, covered}
use Rattle.parts.proofs.Levels.{limit}
use Rattle.parts.proofs.Regions.{region_has, region_same}

not_and : (x y : Bool) → not (x && y) ≡ (not x || not y)
not_and true y = refl
not_and false y = refl

not_or : (x y : Bool) → not (x || y) ≡ (not x && not y)
not_or true y = refl
not_or false y = refl

not_not : (x : Bool) → not (not x) ≡ x
not_not true = refl
not_not false = refl

not_every : (p : ℕ → Bool) (n : ℕ) → not (every p n) ≡ some (λ k. not (p k)) n
not_every p zero = refl
not_every p (suc n) = not_and (p n) (every p n) ∙ ap (λ b. not (p n) || b) (not_every p n)

not_some_is : (p : ℕ → Bool) (n : ℕ) → not (some p n) ≡ every (λ k. not (p k)) n
not_some_is p zero = refl
not_some_is p (suc n) = not_or (p n) (some p n) ∙ ap (λ b. not (p n) && b) (not_some_is p n)

-- tests that agree below n
pub every_agree : (p q : ℕ → Bool) (n : ℕ) → ((k : ℕ) → k < n → p k ≡ q k) → every p n ≡ every q n
every_agree p q zero h = refl
every_agree p q (suc n) h = rw (h n (omega arith), every_agree p q n (λ k lt. h k (omega arith))) refl

pub some_agree : (p q : ℕ → Bool) (n : ℕ) → ((k : ℕ) → k < n → p k ≡ q k) → some p n ≡ some q n
some_agree p q zero h = refl
some_agree p q (suc n) h = rw (h n (omega arith), some_agree p q n (λ k lt. h k (omega arith))) refl

-- regions that agree everywhere are blocked alike
pub blocks_same : (m : Arena) (U V : ℕ → Bool) → ((t : ℕ) → U t ≡ V t) → (s : ℕ) → blocks m U s ≡ blocks m V s
blocks_same m U V h s =
    every_agree _ _ (m.commands s) (λ a a<. some_agree _ _ (m.events s) (λ b b<. h (m.next s a b)))

-- what the controller cannot hold the floor blocks
pub not_holds : (m : Arena) (U : ℕ → Bool) (s : ℕ) → not (holds m U s) ≡ blocks m (λ t. not (U t)) s
not_holds m U s =
    not_some_is (λ a. every (λ b. U (m.next s a b)) (m.events s)) (m.commands s)
    ∙ every_agree _ _ (m.commands s) (λ a a<. not_every (λ b. U (m.next s a b)) (m.events s))

-- the states outside a region
abbrev pub other : ℕ → Region → Region
other n U = region n (λ s. not (has U s))

not_by_grade : (g : ℕ) (x y z : Bool) → not (by_grade g x y z) ≡ by_grade g (not x) (not y) (not z)
not_by_grade zero x y z = refl
not_by_grade (suc zero) x y z = refl
not_by_grade (suc (suc g)) x y z = refl

module _ (m : Arena) (lawful : Lawful m) where
  -- regions that agree on the site's states are held and blocked alike
  pub holds_agree : (U V : ℕ → Bool) → ((t : ℕ) → t < m.states → U t ≡ V t) → (s : ℕ) → s < m.states → holds m U s ≡ holds m V s
  holds_agree U V h s s< =
      some_agree _ _ (m.commands s) (λ a a<. every_agree _ _ (m.events s) (λ b b<. h (m.next s a b) (lawful.closed s a b s< a< b<)))

  pub blocks_agree : (U V : ℕ → Bool) → ((t : ℕ) → t < m.states → U t ≡ V t) → (s : ℕ) → s < m.states → blocks m U s ≡ blocks m V s
  blocks_agree U V h s s< =
      every_agree _ _ (m.commands s) (λ a a<. some_agree _ _ (m.events s) (λ b b<. h (m.next s a b) (lawful.closed s a b s< a< b<)))

  not_holds_in : (U : Region) (s : ℕ) → s < m.states → not (holds m (has U) s) ≡ blocks m (has (other m.states U)) s
  not_holds_in U s s< =
      not_holds m (has U) s ∙ blocks_agree (λ t. not (has U t)) (has (other m.states U)) (λ t lt. sym (region_has m.states (λ s. not (has U s)) t lt)) s s<

  pub F_dual : (X Y Z : Region) → other m.states (F m X Y Z) ≡ G m (other m.states X) (other m.states Y) (other m.states Z)
  F_dual X Y Z =
      region_same m.states _ _ (λ s s<.
      ap not (region_has m.states _ s s<)
      ∙ (not_by_grade (m.grade s) (holds m (has X) s) (holds m (has Y) s) (holds m (has Z) s)
      ∙ (ap (λ b. by_grade (m.grade s) b (not (holds m (has Y) s)) (not (holds m (has Z) s))) (not_holds_in X s s<)
      ∙ (ap (λ b. by_grade (m.grade s) (blocks m (has (other m.states X)) s) b (not (holds m (has Z) s))) (not_holds_in Y s s<)
      ∙ ap (by_grade (m.grade s) (blocks m (has (other m.states X)) s) (blocks m (has (other m.states Y)) s)) (not_holds_in Z s s<)))))

-- operators that the complement turns into each other, step by step
iterate_dual : (n : ℕ) (f g : Region → Region) → ((U : Region) → other n (f U) ≡ g (other n U)) → (k : ℕ) (U : Region) → other n (iterate k f U) ≡ iterate k g (other n U)
iterate_dual n f g h zero U = refl
iterate_dual n f g h (suc k) U = h (iterate k f U) ∙ ap g (iterate_dual n f g h k U)

other_all : (n : ℕ) → other n (all n) ≡ nothing n
other_all n = region_same n _ _ (λ s lt. ap not (region_has n (λ _. true) s lt))

other_nothing : (n : ℕ) → other n (nothing n) ≡ all n
other_nothing n = region_same n _ _ (λ s lt. ap not (region_has n (λ _. false) s lt))

greatest_dual : (n : ℕ) (f g : Region → Region) → ((U : Region) → other n (f U) ≡ g (other n U)) → other n (greatest n f) ≡ least n g
unfolding greatest least
greatest_dual n f g h = iterate_dual n f g h n (all n) ∙ ap (iterate n g) (other_all n)

least_dual : (n : ℕ) (f g : Region → Region) → ((U : Region) → other n (f U) ≡ g (other n U)) → other n (least n f) ≡ greatest n g
unfolding greatest least
least_dual n f g h = iterate_dual n f g h n (nothing n) ∙ ap (iterate n g) (other_nothing n)

-- what is left of the site after i phases
abbrev pub remain : Arena → ℕ → Region
remain m i = iterate i (limit m) (all m.states)

module _ (m : Arena) (lawful : Lawful m) where
  pub limit_dual : (U : Region) → other m.states (limit m U) ≡ greatest m.states (λ Y. least m.states (G m (other m.states U) Y))
  limit_dual U =
      least_dual m.states (λ Y. greatest m.states (F m U Y)) (λ Y. least m.states (G m (other m.states U) Y)) (λ Y.
      greatest_dual m.states (F m U Y) (G m (other m.states U) (other m.states Y)) (F_dual m lawful U Y))

  -- the stages are what the phases have taken out
  pub stage_is : (i : ℕ) → stage m i ≡ other m.states (remain m i)
  stage_is i =
      sym (iterate_dual m.states (limit m) (λ X. greatest m.states (λ Y. least m.states (G m X Y))) limit_dual i (all m.states) ∙ ap (iterate i (λ X. greatest m.states (λ Y. least m.states (G m X Y)))) (other_all m.states))

  pub stage_not : (i s : ℕ) → s < m.states → has (stage m i) s ≡ not (has (remain m i) s)
  stage_not i s lt = ap (λ V. has V s) (stage_is i) ∙ region_has m.states (λ s. not (has (remain m i) s)) s lt

  pub remain_not : (i s : ℕ) → s < m.states → has (remain m i) s ≡ not (has (stage m i) s)
  remain_not i s lt = sym (not_not (has (remain m i) s)) ∙ ap not (sym (stage_not i s lt))

  -- the covered part is what all phases leave
  pub covered_remain : covered m ≡ remain m m.states
  unfolding covered greatest
  covered_remain = refl
