-- `opening::open` meets its contract. Assumes nothing.
use mathlib.Core.Path.{refl, sym, ◌∙◌}
use borrow.Author.Tests.{eq-eqb, ne_eqb, le-leb, lt-leb}
use Rattle.opening.specs.Open.{order, settings}
use Rattle.opening.proofs.Cases.{good_files, bad_files, laid, in_order, says_length, says_settings, says_files, says_late, says_new}
use Rattle.opening.proofs.open.Goals as goal

pub returns-in_default : goal.returns-in_default
returns-in_default c = rw c.into.ensures (says_length (ne_eqb _ _ c.in_default.ensures.cases))

pub returns-then-not-in_order : goal.returns-then-not-in_order
unfolding settings
returns-then-not-in_order c =
    let s = c.in-Some.ensures.cases in
    rw (c.into-then-not-in_order.ensures, s.same) (says_settings (eq-eqb _ _ s.long) (sym c.if-not-in_order.ensures))

pub returns-in_default-ruling : goal.returns-in_default-ruling
unfolding settings
returns-in_default-ruling c =
    let a = c.args in
    let s = c.in-Some.ensures.cases in
    let o = order a.time a.imsi a.intervals.now a.nfm a.rpm a.a1 a.s1 a.parameters.now a.leaks.now a.counters.now a.own_parameters.now a.own_leaks.now in
    let files = bad_files o c.parameters-p.ensures.holds c.rates-r.ensures.holds c.counters-k.ensures.holds c.in_default-ruling.ensures in
    rw (c.into-in_default-ruling.ensures, s.same) (says_files (eq-eqb _ _ s.long) (sym c.if-not-in_order.ensures) files)

pub returns-then-time-gt-LATEST : goal.returns-then-time-gt-LATEST
unfolding settings
returns-then-time-gt-LATEST c =
    let a = c.args in
    let s = c.in-Some.ensures.cases in
    let o = order a.time a.imsi a.intervals.now a.nfm a.rpm a.a1 a.s1 a.parameters.now a.leaks.now a.counters.now a.own_parameters.now a.own_leaks.now in
    let r = c.in-Some-ruling.ensures in
    let x = r.0 in
    let p = x.0 ∙ c.parameters-p.ensures.holds in
    let q = x.1.0 ∙ c.rates-r.ensures.holds in
    let k = x.1.1 ∙ c.counters-k.ensures.holds in
    let files = good_files o c.parameters-p.ensures.holds c.rates-r.ensures.holds c.counters-k.ensures.holds r.1.0 r.1.1.0 r.1.1.1 in
    rw (c.into-then-time-gt-LATEST.ensures, s.same) (says_late (eq-eqb _ _ s.long) (sym c.if-not-in_order.ensures) files (lt-leb _ _ c.if-time-gt-LATEST.true))

pub fill-requires : goal.fill-requires
unfolding settings
fill-requires c =
    let a = c.args in
    let o = order a.time a.imsi a.intervals.now a.nfm a.rpm a.a1 a.s1 a.parameters.now a.leaks.now a.counters.now a.own_parameters.now a.own_leaks.now in
    let r = c.in-Some-ruling.ensures in
    let x = r.0 in
    let p = x.0 ∙ c.parameters-p.ensures.holds in
    let q = x.1.0 ∙ c.rates-r.ensures.holds in
    let k = x.1.1 ∙ c.counters-k.ensures.holds in
    let files = good_files o c.parameters-p.ensures.holds c.rates-r.ensures.holds c.counters-k.ensures.holds r.1.0 r.1.1.0 r.1.1.1 in
    let f = in_order o (rw (← c.if-not-in_order.ensures, files) refl) in
    record { imsi_bound = f.imsi; few = f.few }

pub returns : goal.returns
unfolding settings
returns c =
    let a = c.args in
    let s = c.in-Some.ensures.cases in
    let o = order a.time a.imsi a.intervals.now a.nfm a.rpm a.a1 a.s1 a.parameters.now a.leaks.now a.counters.now a.own_parameters.now a.own_leaks.now in
    let r = c.in-Some-ruling.ensures in
    let x = r.0 in
    let p = x.0 ∙ c.parameters-p.ensures.holds in
    let q = x.1.0 ∙ c.rates-r.ensures.holds in
    let k = x.1.1 ∙ c.counters-k.ensures.holds in
    let files = good_files o c.parameters-p.ensures.holds c.rates-r.ensures.holds c.counters-k.ensures.holds r.1.0 r.1.1.0 r.1.1.1 in
    rw (c.fill.ensures, laid o p q k) (says_new (eq-eqb _ _ s.long) (sym c.if-not-in_order.ensures) files (le-leb _ _ c.if-time-gt-LATEST.false))
