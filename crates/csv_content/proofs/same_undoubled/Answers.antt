-- `csv_content::same_undoubled` meets its contract.
use Rattle.csv_content.proofs.Contents.{same-short, same-cons, same-differ, same-nothing, undouble-skip, undouble-keep, undouble-end}
use Rattle.csv_content.specs.Content.{same_bytes}
use Rattle.std.proofs.Common.{drop, List, ℕ, sym, ap, ◌∙◌, arith}
use Rattle.csv_content.proofs.same_undoubled.Goals as goal

pub loop-x-preserved-then-is_second : goal.loop-x-preserved-then-is_second
loop-x-preserved-then-is_second c =
    let a = c.args in
    let l = c.loop-x in (
      l.invariant.0,
      l.invariant.1 ∙ ap (λ (x : List ℕ). same_bytes x (drop l.j a.b.now))
          (undouble-skip a.a.now l.x-index l.kept c.loop-x-test.true (sym c.is_second.ensures ∙ c.if-is_second.true)),
    )

pub returns-then-b-j : goal.returns-then-b-j
returns-then-b-j c =
    let a = c.args in
    let l = c.loop-x in
    let b = a.b.now in
    sym (l.invariant.1 ∙ ap (λ (x : List ℕ). same_bytes x (drop l.j b))
    (undouble-keep a.a.now l.x-index l.kept c.loop-x-test.true
    (sym c.is_second.ensures ∙ c.if-is_second.false)) ∙ same-short b l.j _ _ c.if-b-j.true)

pub returns-then-x-b : goal.returns-then-x-b
returns-then-x-b c =
    let a = c.args in
    let l = c.loop-x in
    let b = a.b.now in
    sym (l.invariant.1 ∙ ap (λ (x : List ℕ). same_bytes x (drop l.j b))
    (undouble-keep a.a.now l.x-index l.kept c.loop-x-test.true
    (sym c.is_second.ensures ∙ c.if-is_second.false)) ∙ same-differ b l.j _ _
    c.if-b-j.false c.if-x-b.true)

pub loop-x-preserved : goal.loop-x-preserved
loop-x-preserved c =
    let a = c.args in
    let l = c.loop-x in
    let b = a.b.now in (
      omega arith,
      l.invariant.1 ∙ ap (λ (x : List ℕ). same_bytes x (drop l.j b))
          (undouble-keep a.a.now l.x-index l.kept c.loop-x-test.true
          (sym c.is_second.ensures ∙ c.if-is_second.false)) ∙ same-cons b l.j _ _
          c.if-b-j.false c.if-x-b.false,
    )

pub returns : goal.returns
returns c =
    let a = c.args in
    let l = c.loop-x in
    let b = a.b.now in
    sym (l.invariant.1 ∙ ap (λ (x : List ℕ). same_bytes x (drop l.j b)) (undouble-end a.a.now l.x-index l.kept c.loop-x-test.false)
    ∙ same-nothing b l.j l.invariant.0)
