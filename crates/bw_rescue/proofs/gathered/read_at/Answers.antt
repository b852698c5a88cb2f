use Rattle.std.proofs.Common.{◌≡◌, List, ℕ, length, refl, sym, subst, arith}
use Rattle.bw_rescue.specs.declared.held.Held.{Held}
use Rattle.bw_rescue.specs.Taken.{StandsAt}
use Rattle.bw_rescue.proofs.AllGathered.{the_frame, no_frame, same_read, that_one}
use Rattle.bw_rescue.proofs.gathered.read_at.Goals as goal

pub returns-in-Some : goal.returns-in-Some
returns-in-Some c = λ h f len its stands.
    let one : h ≡ c.index-held-at.result = that_one c.args.held.now (length c.args.held.now) c.args.at.segment h c.index-held-at.result refl (let below = c.if-at-held.false in omega (arith, below)) c.index-held-at.is its in
    let here : StandsAt c.index-held-at.result.header c.as_slice.result.now c.args.at.at f len = subst (λ (l : List ℕ). StandsAt c.index-held-at.result.header l c.args.at.at f len)
    (sym c.as_slice.ensures.value) (subst (λ (x : Held). StandsAt x.header x.bytes.items c.args.at.at f len) one stands) in
    same_read c.in-Some.frame f c.read.result c.args.pages.now c.read.new.self
    (the_frame c.in_ok-frame.field-0 c.in-Some.frame f c.in-Some.field-0-1 len c.in-Some.is (c.in_ok-frame.ensures.only f len here))
    (λ done read. c.read.ensures.pages done read) c.read.ensures.last c.read.ensures.gap

pub returns-in-None : goal.returns-in-None
returns-in-None c = λ h f len its stands.
    let one : h ≡ c.index-held-at.result = that_one c.args.held.now (length c.args.held.now) c.args.at.segment h c.index-held-at.result refl (let below = c.if-at-held.false in omega (arith, below)) c.index-held-at.is its in
    let here : StandsAt c.index-held-at.result.header c.as_slice.result.now c.args.at.at f len = subst (λ (l : List ℕ). StandsAt c.index-held-at.result.header l c.args.at.at f len)
    (sym c.as_slice.ensures.value) (subst (λ (x : Held). StandsAt x.header x.bytes.items c.args.at.at f len) one stands) in
    absurd (no_frame c.in_ok-frame.field-0 f len c.in-None.is (c.in_ok-frame.ensures.only f len here))
