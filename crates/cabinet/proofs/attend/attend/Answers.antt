use Rattle.std.proofs.Common.{◌≡◌, suc, ◌+◌, ◌-◌, ◌++◌, length, sym, ap, ◌∙◌, arith}
use Rattle.std.proofs.lemmas.List.{length-append}
use Rattle.book.specs.Views.{view}
use Rattle.cabinet.specs.Tables.{as_list}
use Rattle.cabinet.proofs.Acting.{one_at_most}
use Rattle.cabinet.proofs.Going.{refusals_more, book_more, refusals_stop, book_stop, refusals_end, book_end, answer_here, book_here, passed_here, place_here}
use Rattle.cabinet.proofs.attend.attend.Goals as goal

-- (The two turns name the same facts. Each goal has a type of its own, so a lemma for both would take every fact as a parameter.)
pub loop-turn-preserved : goal.loop-turn-preserved
loop-turn-preserved g c =
    let r = c.loop-turn.reader in
    let b = view c.loop-turn.book in
    let a = c.attend_one-answer.result in
    let left : 8_192 - c.loop-turn.turn ≡ suc (8_192 - (c.loop-turn.turn + 1)) = omega (arith, c.loop-turn-test.true) in
    let is = answer_here g.S.Quote.Quote.number g.S.Quote.Quote.read g.S.Quote.Quote.no_worse g.S.Rule.SharingRule.meaning (length c.args.demands.now) (length c.loop-turn.demands) (length c.args.shares.now) (length c.loop-turn.shares) c.args.reader.now.bytes.now c.loop-turn.reader.bytes.now c.loop-turn.auto.demands c.loop-turn.auto.shares c.loop-turn.invariant.3 (view c.loop-turn.book) c.loop-turn.reader.place r.passed a c.attend_one-answer.ensures.result in
    let book = book_here g.S.Quote.Quote.number g.S.Quote.Quote.read g.S.Quote.Quote.no_worse g.S.Rule.SharingRule.meaning (length c.args.demands.now) (length c.loop-turn.demands) (length c.args.shares.now) (length c.loop-turn.shares) c.args.reader.now.bytes.now c.loop-turn.reader.bytes.now c.loop-turn.auto.demands c.loop-turn.auto.shares c.loop-turn.invariant.3 (view c.loop-turn.book) c.loop-turn.reader.place (view c.attend_one-answer.new.book) c.attend_one-answer.ensures.book.after in
    let front = c.loop-turn.log in
    let longer = c.append.new.self in
    let many = ap length c.append.ensures ∙ length-append front (as_list c.refusal_in.result) in
    let told = c.append.ensures ∙ ap (λ t. front ++ t) c.refusal_in.ensures in
    let on = c.if-not-goes_on.ensures in
    let passed = passed_here g.S.Quote.Quote.number g.S.Quote.Quote.read g.S.Quote.Quote.no_worse g.S.Rule.SharingRule.meaning (length c.args.demands.now) (length c.loop-turn.demands) (length c.args.shares.now) (length c.loop-turn.shares) c.args.reader.now.bytes.now c.loop-turn.reader.bytes.now c.loop-turn.auto.demands c.loop-turn.auto.shares c.loop-turn.invariant.3 (view c.loop-turn.book) c.loop-turn.reader.place r.passed c.attend_one-answer.new.reader.passed c.attend_one-answer.ensures.reader.passed in
    let place = place_here g.S.Quote.Quote.number g.S.Quote.Quote.read g.S.Quote.Quote.no_worse g.S.Rule.SharingRule.meaning (length c.args.demands.now) (length c.loop-turn.demands) (length c.args.shares.now) (length c.loop-turn.shares) c.args.reader.now.bytes.now c.loop-turn.reader.bytes.now c.loop-turn.auto.demands c.loop-turn.auto.shares c.loop-turn.invariant.3 (view c.loop-turn.book) c.loop-turn.reader.place c.attend_one-answer.new.reader.place c.attend_one-answer.ensures.reader.place in (
      omega (arith, one_at_most c.refusal_in.result, many, c.loop-turn.invariant.0),
      refusals_more g.S.Quote.Quote.number g.S.Quote.Quote.read g.S.Quote.Quote.no_worse g.S.Rule.SharingRule.meaning (length c.args.demands.now) (length c.args.shares.now) c.args.reader.now.bytes.now b r.passed r.place a is _ _ _ _ _ front longer _ left (sym on) book passed place told c.loop-turn.invariant.1,
      book_more g.S.Quote.Quote.number g.S.Quote.Quote.read g.S.Quote.Quote.no_worse g.S.Rule.SharingRule.meaning (length c.args.demands.now) (length c.args.shares.now) c.args.reader.now.bytes.now b r.passed r.place a is _ _ _ _ _ _ left (sym on) book passed place c.loop-turn.invariant.2,
      c.attend_one-answer.ensures.reader.bytes ∙ c.loop-turn.invariant.3,
      c.attend_one-answer.ensures.book.same ∙ c.loop-turn.invariant.4,
    )

pub returns-then-not-goes_on : goal.returns-then-not-goes_on
returns-then-not-goes_on g c =
    let r = c.loop-turn.reader in
    let b = view c.loop-turn.book in
    let a = c.attend_one-answer.result in
    let left : 8_192 - c.loop-turn.turn ≡ suc (8_192 - (c.loop-turn.turn + 1)) = omega (arith, c.loop-turn-test.true) in
    let is = answer_here g.S.Quote.Quote.number g.S.Quote.Quote.read g.S.Quote.Quote.no_worse g.S.Rule.SharingRule.meaning (length c.args.demands.now) (length c.loop-turn.demands) (length c.args.shares.now) (length c.loop-turn.shares) c.args.reader.now.bytes.now c.loop-turn.reader.bytes.now c.loop-turn.auto.demands c.loop-turn.auto.shares c.loop-turn.invariant.3 (view c.loop-turn.book) c.loop-turn.reader.place r.passed a c.attend_one-answer.ensures.result in
    let book = book_here g.S.Quote.Quote.number g.S.Quote.Quote.read g.S.Quote.Quote.no_worse g.S.Rule.SharingRule.meaning (length c.args.demands.now) (length c.loop-turn.demands) (length c.args.shares.now) (length c.loop-turn.shares) c.args.reader.now.bytes.now c.loop-turn.reader.bytes.now c.loop-turn.auto.demands c.loop-turn.auto.shares c.loop-turn.invariant.3 (view c.loop-turn.book) c.loop-turn.reader.place (view c.attend_one-answer.new.book) c.attend_one-answer.ensures.book.after in
    let front = c.loop-turn.log in
    let longer = c.append.new.self in
    let many = ap length c.append.ensures ∙ length-append front (as_list c.refusal_in.result) in
    let told = c.append.ensures ∙ ap (λ t. front ++ t) c.refusal_in.ensures in
    let off = c.if-not-goes_on.ensures in
    record {
      few = omega (arith, one_at_most c.refusal_in.result, many, c.loop-turn.invariant.0, c.loop-turn-test.true);
      refusals = refusals_stop g.S.Quote.Quote.number g.S.Quote.Quote.read g.S.Quote.Quote.no_worse g.S.Rule.SharingRule.meaning (length c.args.demands.now) (length c.args.shares.now) c.args.reader.now.bytes.now b r.passed r.place a is _ _ front longer _ left (sym off) told c.loop-turn.invariant.1;
      book = record {
        after = book_stop g.S.Quote.Quote.number g.S.Quote.Quote.read g.S.Quote.Quote.no_worse g.S.Rule.SharingRule.meaning (length c.args.demands.now) (length c.args.shares.now) c.args.reader.now.bytes.now b r.passed r.place a is _ _ _ _ left (sym off) book c.loop-turn.invariant.2;
        same = c.attend_one-answer.ensures.book.same ∙ c.loop-turn.invariant.4;
      };
    }

pub returns : goal.returns
returns g c =
    let r = c.loop-turn.reader in
    let b = view c.loop-turn.book in
    let none : 8_192 - c.loop-turn.turn ≡ 0 = omega (arith, c.loop-turn-test.false) in
    record {
      few = omega (arith, c.loop-turn.invariant.0, c.loop-turn.auto.turn-end);
      refusals = refusals_end g.S.Quote.Quote.number g.S.Quote.Quote.read g.S.Quote.Quote.no_worse g.S.Rule.SharingRule.meaning (length c.args.demands.now) (length c.args.shares.now) c.args.reader.now.bytes.now b r.passed r.place _ c.loop-turn.log _ none c.loop-turn.invariant.1;
      book = record {
        after = book_end g.S.Quote.Quote.number g.S.Quote.Quote.read g.S.Quote.Quote.no_worse g.S.Rule.SharingRule.meaning (length c.args.demands.now) (length c.args.shares.now) c.args.reader.now.bytes.now b r.passed r.place _ _ none c.loop-turn.invariant.2;
        same = c.loop-turn.invariant.4;
      };
    }
