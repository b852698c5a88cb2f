-- Groups that are put together from the two rings.
use Rattle.std.proofs.Common.{◌≡◌, ◌+◌, ◌<◌, List, [], ◌∷◌, ◌++◌, length, refl, ap, ap₂, sym, ◌∙◌, subst, arith, append-nil, append_assoc}
use mathlib.Core.List.{IsPrefix}
use Rattle.bw_record.specs.declared.record.Record.{Record}
use Rattle.bw_ring.specs.declared.slots.First.{First}
use Rattle.bw_ring.specs.declared.slots.First.TheVariants.{Alone, Leads}
use Rattle.bw_ring.specs.declared.slots.Rest.{Rest}
use Rattle.bw_ring.specs.Rings.{rest_of, leading, grouped}
use Rattle.bw_ring.specs.Marks.{Marked, marked, joined}

-- more of both, if none before wants its others
pub grouped-more : (fs gs : List First) (rs ss : List Rest) → leading fs ≡ length rs → grouped (fs ++ gs) (rs ++ ss) ≡ grouped fs rs ++ grouped gs ss
grouped-more [] gs [] ss e = refl
grouped-more [] gs (r ∷ rs) ss e = absurd (omega arith)
grouped-more (Alone a ∷ fs) gs rs ss e = ap (λ (l : List (List Record)). (a ∷ []) ∷ l) (grouped-more fs gs rs ss e)
grouped-more (Leads a ∷ fs) gs [] ss e = absurd (omega arith)
grouped-more (Leads a ∷ fs) gs (r ∷ rs) ss e = ap (λ (l : List (List Record)). (a ∷ rest_of r) ∷ l) (grouped-more fs gs rs ss (omega arith))

leading-more : (fs gs : List First) → leading (fs ++ gs) ≡ leading fs + leading gs
leading-more [] gs = omega arith
leading-more (Alone a ∷ fs) gs = leading-more fs gs
leading-more (Leads a ∷ fs) gs = let ih : leading (fs ++ gs) ≡ leading fs + leading gs = leading-more fs gs in omega arith

length-more : {X : Type 0} (xs ys : List X) → length (xs ++ ys) ≡ length xs + length ys
length-more [] ys = omega arith
length-more (x ∷ xs) ys = let ih : length (xs ++ ys) ≡ length xs + length ys = length-more xs ys in omega arith

-- ---- one group more

pub more-alone : (fs new : List First) (rs : List Rest) (f : First) (x : Record) (g : List Record) → leading fs ≡ length rs → new ≡ fs ++ f ∷ []
    → f ≡ Alone x → g ≡ x ∷ []
    → grouped new rs ≡ grouped fs rs ++ g ∷ []
more-alone fs new rs f x g whole e is to =
    ap₂ grouped (e ∙ ap (λ (y : First). fs ++ y ∷ []) is) (sym (append-nil rs)) ∙ grouped-more fs (Alone x ∷ []) rs [] whole
    ∙ ap (λ (y : List Record). grouped fs rs ++ y ∷ []) (sym to)

pub more-led : (fs new : List First) (rs left : List Rest) (f : First) (x : Record) (r : Rest) (g : List Record) → leading fs ≡ length rs
    → new ≡ fs ++ f ∷ [] → f ≡ Leads x
    → left ≡ rs ++ r ∷ [] → g ≡ x ∷ rest_of r → grouped new left ≡ grouped fs rs ++ g ∷ []
more-led fs new rs left f x r g whole e is l to =
    ap₂ grouped (e ∙ ap (λ (y : First). fs ++ y ∷ []) is) l ∙ grouped-more fs (Leads x ∷ []) rs (r ∷ []) whole
    ∙ ap (λ (y : List Record). grouped fs rs ++ y ∷ []) (sym to)

pub whole-alone : (fs new : List First) (rs : List Rest) (f : First) (x : Record) → leading fs ≡ length rs → new ≡ fs ++ f ∷ [] → f ≡ Alone x
    → leading new ≡ length rs
whole-alone fs new rs f x whole e is =
    let n : leading (fs ++ Alone x ∷ []) ≡ leading fs + 0 = leading-more fs (Alone x ∷ []) in
    ap leading (e ∙ ap (λ (y : First). fs ++ y ∷ []) is) ∙ (omega arith)

pub whole-led : (fs new : List First) (rs left : List Rest) (f : First) (x : Record) (r : Rest) → leading fs ≡ length rs → new ≡ fs ++ f ∷ [] → f ≡ Leads x
    → left ≡ rs ++ r ∷ [] → leading new ≡ length left
whole-led fs new rs left f x r whole e is l =
    let n : leading (fs ++ Leads x ∷ []) ≡ leading fs + (1 + 0) = leading-more fs (Leads x ∷ []) in
    let m : length (rs ++ r ∷ []) ≡ length rs + length (r ∷ []) = length-more rs (r ∷ []) in
    let k : leading (fs ++ Leads x ∷ []) ≡ length (rs ++ r ∷ []) = omega arith in
    ap leading (e ∙ ap (λ (y : First). fs ++ y ∷ []) is) ∙ k ∙ sym (ap length l)

-- ---- the first group known goes

pub known-alone : (ahead left : List First) (rs : List Rest) (f : First) (x : Record) (g : List Record) → ahead ≡ f ∷ left → f ≡ Alone x → g ≡ x ∷ []
    → grouped ahead rs ≡ g ∷ grouped left rs
known-alone ahead left rs f x g e is to =
    ap (λ (l : List First). grouped l rs) (e ∙ ap (λ (y : First). y ∷ left) is) ∙ ap (λ (y : List Record). y ∷ grouped left rs) (sym to)

pub known-led : (ahead left : List First) (rs rleft : List Rest) (f : First) (x : Record) (r : Rest) (g : List Record) → ahead ≡ f ∷ left → f ≡ Leads x
    → rs ≡ r ∷ rleft → g ≡ x ∷ rest_of r → grouped ahead rs ≡ g ∷ grouped left rleft
known-led ahead left rs rleft f x r g e is l to =
    ap₂ grouped (e ∙ ap (λ (y : First). y ∷ left) is) l ∙ ap (λ (y : List Record). y ∷ grouped left rleft) (sym to)

-- ---- more is known

grouped-begin : (fs ft : List First) (rs rt : List Rest) → IsPrefix (grouped fs rs) (grouped (fs ++ ft) (rs ++ rt))
grouped-begin [] ft rs rt = (grouped ft (rs ++ rt), refl)
grouped-begin (Alone a ∷ fs) ft rs rt =
    let b = grouped-begin fs ft rs rt in (b.0, ap (λ (l : List (List Record)). (a ∷ []) ∷ l) b.1)
grouped-begin (Leads a ∷ fs) ft [] rt = (grouped (Leads a ∷ fs ++ ft) rt, refl)
grouped-begin (Leads a ∷ fs) ft (r ∷ rs) rt =
    let b = grouped-begin fs ft rs rt in (b.0, ap (λ (l : List (List Record)). (a ∷ rest_of r) ∷ l) b.1)

pub grouped-begins : (fs gs : List First) (rs ss : List Rest) → IsPrefix fs gs → IsPrefix rs ss → IsPrefix (grouped fs rs) (grouped gs ss)
grouped-begins fs gs rs ss p q =
    subst (λ (g : List First). IsPrefix (grouped fs rs) (grouped g ss)) p.1
    (subst (λ (s : List Rest). IsPrefix (grouped fs rs) (grouped (fs ++ p.0) s)) q.1 (grouped-begin fs p.0 rs q.0))

-- ---- the first group known

pub none-first : (fs : List First) (rs : List Rest) → length fs ≡ 0 → length (grouped fs rs) ≡ 0
none-first [] rs e = refl
none-first (f ∷ fs) rs e = absurd (omega arith)

pub some-first : (fs : List First) (rs : List Rest) → 0 < length (grouped fs rs) → 0 < length fs
some-first [] rs lt = lt
some-first (f ∷ fs) rs lt = omega arith

pub first-alone : (x : Record) (fs : List First) (rs : List Rest) → IsPrefix (Alone x ∷ []) fs → IsPrefix ((x ∷ []) ∷ []) (grouped fs rs)
first-alone x fs rs p = (grouped p.0 rs, ap (λ (g : List First). grouped g rs) p.1)

pub first-led : (x : Record) (r : Rest) (fs : List First) (rs : List Rest) → IsPrefix (Leads x ∷ []) fs → IsPrefix (r ∷ []) rs
    → IsPrefix ((x ∷ rest_of r) ∷ []) (grouped fs rs)
first-led x r fs rs p q = (grouped p.0 q.0, ap₂ grouped p.1 q.1)

pub some-alone : (x : Record) (fs : List First) (rs : List Rest) → IsPrefix (Alone x ∷ []) fs → 0 < length (grouped fs rs)
some-alone x fs rs p = subst (λ (g : List First). 0 < length (grouped g rs)) p.1 (omega arith)

some-led-at : (x : Record) (fs : List First) (rs : List Rest) → 0 < length rs → 0 < length (grouped (Leads x ∷ fs) rs)
some-led-at x fs [] lt = lt
some-led-at x fs (r ∷ rs) lt = omega arith

led-some-at : (x : Record) (fs : List First) (rs : List Rest) → 0 < length (grouped (Leads x ∷ fs) rs) → 0 < length rs
led-some-at x fs [] lt = lt
led-some-at x fs (r ∷ rs) lt = omega arith

pub some-led : (x : Record) (fs : List First) (rs : List Rest) → IsPrefix (Leads x ∷ []) fs → 0 < length rs → 0 < length (grouped fs rs)
some-led x fs rs p lt = subst (λ (g : List First). 0 < length (grouped g rs)) p.1 (some-led-at x p.0 rs lt)

pub led-some : (x : Record) (fs : List First) (rs : List Rest) → IsPrefix (Leads x ∷ []) fs → 0 < length (grouped fs rs) → 0 < length rs
led-some x fs rs p lt = led-some-at x p.0 rs (subst (λ (g : List First). 0 < length (grouped g rs)) (sym p.1) lt)

-- ---- all that was put is known

pub all-grouped : (fs : List First) (rs : List Rest) → leading fs ≡ length rs → length (grouped fs rs) ≡ length fs
all-grouped [] rs e = refl
all-grouped (Alone a ∷ fs) rs e = let ih : length (grouped fs rs) ≡ length fs = all-grouped fs rs e in omega arith
all-grouped (Leads a ∷ fs) [] e = absurd (omega arith)
all-grouped (Leads a ∷ fs) (r ∷ rs) e = let ih : length (grouped fs rs) ≡ length fs = all-grouped fs rs (omega arith) in omega arith

pub rest-whole : (past ahead sent : List First) (rpast rahead rsent : List Rest) → leading past ≡ length rpast → leading sent ≡ length rsent
    → past ++ ahead ≡ sent → rpast ++ rahead ≡ rsent → leading ahead ≡ length rahead
rest-whole past ahead sent rpast rahead rsent whole all e f =
    let n : leading (past ++ ahead) ≡ leading past + leading ahead = leading-more past ahead in
    let m : length (rpast ++ rahead) ≡ length rpast + length rahead = length-more rpast rahead in
    let k : leading (past ++ ahead) ≡ length (rpast ++ rahead) = ap leading e ∙ all ∙ sym (ap length f) in
    omega arith

joined-append : (gs hs : List (List Record)) → joined (gs ++ hs) ≡ joined gs ++ joined hs
joined-append [] hs = refl
joined-append (g ∷ gs) hs = ap (λ (l : List Marked). marked g ++ l) (joined-append gs hs) ∙ sym (append_assoc (marked g) (joined gs) (joined hs))

pub all-given : (past ahead sent : List First) (rpast rahead rsent : List Rest) → leading past ≡ length rpast
    → past ++ ahead ≡ sent → rpast ++ rahead ≡ rsent → joined (grouped sent rsent) ≡ joined (grouped past rpast) ++ joined (grouped ahead rahead)
all-given past ahead sent rpast rahead rsent whole e f =
    ap joined (sym (ap₂ grouped e f) ∙ grouped-more past ahead rpast rahead whole) ∙ joined-append (grouped past rpast) (grouped ahead rahead)

-- ---- the first group known, by what is shown of it

pub some-shown : (g : List Record) (gs : List (List Record)) → IsPrefix (g ∷ []) gs → 0 < length gs
some-shown g gs p = subst (λ (l : List (List Record)). 0 < length l) p.1 (omega arith)

pub group-shown : (g h : List Record) (gs rest : List (List Record)) → IsPrefix (g ∷ []) gs → gs ≡ h ∷ rest → g ≡ h
group-shown g h gs rest p e = let both : g ∷ p.0 ≡ h ∷ rest = p.1 ∙ e in cc

pub alone-shown : (f : First) (x : Record) (fs : List First) (rs : List Rest) → IsPrefix (f ∷ []) fs → f ≡ Alone x → IsPrefix ((x ∷ []) ∷ []) (grouped fs rs)
alone-shown f x fs rs p is = first-alone x fs rs (subst (λ (g : First). IsPrefix (g ∷ []) fs) is p)
