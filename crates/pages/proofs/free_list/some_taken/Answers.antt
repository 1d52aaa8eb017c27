use Rattle.std.proofs.Common.{◌+◌, ◌*◌, arith, refl}
use Rattle.pages.proofs.Marks.{in_both, is_mark, none_yet, one_more}
use Rattle.pages.proofs.free_list.some_taken.Goals as goal

pub returns : goal.returns
returns c none =
    let words = c.args.words.now in let at = 2048 * c.args.page in let class = c.args.class in let from = c.args.from in
    let all = is_mark _ none in
    let s8 = in_both _ _ all in
    let s7 = in_both _ _ s8.0 in
    let s6 = in_both _ _ s7.0 in
    let s5 = in_both _ _ s6.0 in
    let s4 = in_both _ _ s5.0 in
    let s3 = in_both _ _ s4.0 in
    let s2 = in_both _ _ s3.0 in
    let f1 = one_more words at class from from (from + 1) c.mark_of.result refl c.mark_of.ensures c.mark_of.type_inv s2.0 (none_yet words at class from) in
    let f2 = one_more words at class from (from + 1) (from + 2) c.mark_of-2.result (omega arith) c.mark_of-2.ensures c.mark_of-2.type_inv s2.1 f1 in
    let f3 = one_more words at class from (from + 2) (from + 3) c.mark_of-3.result (omega arith) c.mark_of-3.ensures c.mark_of-3.type_inv s3.1 f2 in
    let f4 = one_more words at class from (from + 3) (from + 4) c.mark_of-4.result (omega arith) c.mark_of-4.ensures c.mark_of-4.type_inv s4.1 f3 in
    let f5 = one_more words at class from (from + 4) (from + 5) c.mark_of-5.result (omega arith) c.mark_of-5.ensures c.mark_of-5.type_inv s5.1 f4 in
    let f6 = one_more words at class from (from + 5) (from + 6) c.mark_of-6.result (omega arith) c.mark_of-6.ensures c.mark_of-6.type_inv s6.1 f5 in
    let f7 = one_more words at class from (from + 6) (from + 7) c.mark_of-7.result (omega arith) c.mark_of-7.ensures c.mark_of-7.type_inv s7.1 f6 in
    let f8 = one_more words at class from (from + 7) (from + 8) c.mark_of-8.result (omega arith) c.mark_of-8.ensures c.mark_of-8.type_inv s8.1 f7 in f8
