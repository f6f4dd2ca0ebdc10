-- Each operator's byte means what its sign means.
use Rattle.std.proofs.Common.{zero, suc, refl, arith}
use Rattle.verified_code.specs.Signs.{WordsAreSigned, IntsAreSigned, BoolsAreSigned}

pub words_are_signed : WordsAreSigned
words_are_signed zero h = refl
words_are_signed (suc zero) h = refl
words_are_signed (suc (suc zero)) h = refl
words_are_signed (suc (suc (suc zero))) h = refl
words_are_signed (suc (suc (suc (suc zero)))) h = refl
words_are_signed (suc (suc (suc (suc (suc zero))))) h = refl
words_are_signed (suc (suc (suc (suc (suc (suc zero)))))) h = refl
words_are_signed (suc (suc (suc (suc (suc (suc (suc zero))))))) h = refl
words_are_signed (suc (suc (suc (suc (suc (suc (suc (suc zero)))))))) h = refl
words_are_signed (suc (suc (suc (suc (suc (suc (suc (suc (suc zero))))))))) h = refl
words_are_signed (suc (suc (suc (suc (suc (suc (suc (suc (suc (suc zero)))))))))) h = refl
words_are_signed (suc (suc (suc (suc (suc (suc (suc (suc (suc (suc (suc zero))))))))))) h = refl
words_are_signed (suc (suc (suc (suc (suc (suc (suc (suc (suc (suc (suc (suc zero)))))))))))) h = refl
words_are_signed (suc (suc (suc (suc (suc (suc (suc (suc (suc (suc (suc (suc (suc zero))))))))))))) h = refl
words_are_signed (suc (suc (suc (suc (suc (suc (suc (suc (suc (suc (suc (suc (suc (suc o)))))))))))))) h = absurd (omega (arith, h))

pub ints_are_signed : IntsAreSigned
ints_are_signed zero h = refl
ints_are_signed (suc zero) h = refl
ints_are_signed (suc (suc zero)) h = refl
ints_are_signed (suc (suc (suc zero))) h = refl
ints_are_signed (suc (suc (suc (suc zero)))) h = refl
ints_are_signed (suc (suc (suc (suc (suc zero))))) h = refl
ints_are_signed (suc (suc (suc (suc (suc (suc zero)))))) h = refl
ints_are_signed (suc (suc (suc (suc (suc (suc (suc zero))))))) h = refl
ints_are_signed (suc (suc (suc (suc (suc (suc (suc (suc zero)))))))) h = refl
ints_are_signed (suc (suc (suc (suc (suc (suc (suc (suc (suc zero))))))))) h = refl
ints_are_signed (suc (suc (suc (suc (suc (suc (suc (suc (suc (suc zero)))))))))) h = refl
ints_are_signed (suc (suc (suc (suc (suc (suc (suc (suc (suc (suc (suc zero))))))))))) h = refl
ints_are_signed (suc (suc (suc (suc (suc (suc (suc (suc (suc (suc (suc (suc zero)))))))))))) h = refl
ints_are_signed (suc (suc (suc (suc (suc (suc (suc (suc (suc (suc (suc (suc (suc zero))))))))))))) h = refl
ints_are_signed (suc (suc (suc (suc (suc (suc (suc (suc (suc (suc (suc (suc (suc (suc o)))))))))))))) h = absurd (omega (arith, h))

pub bools_are_signed : BoolsAreSigned
bools_are_signed zero h = refl
bools_are_signed (suc zero) h = refl
bools_are_signed (suc (suc zero)) h = refl
bools_are_signed (suc (suc (suc zero))) h = refl
bools_are_signed (suc (suc (suc (suc zero)))) h = refl
bools_are_signed (suc (suc (suc (suc (suc zero))))) h = refl
bools_are_signed (suc (suc (suc (suc (suc (suc zero)))))) h = refl
bools_are_signed (suc (suc (suc (suc (suc (suc (suc zero))))))) h = refl
bools_are_signed (suc (suc (suc (suc (suc (suc (suc (suc zero)))))))) h = refl
bools_are_signed (suc (suc (suc (suc (suc (suc (suc (suc (suc zero))))))))) h = refl
bools_are_signed (suc (suc (suc (suc (suc (suc (suc (suc (suc (suc zero)))))))))) h = refl
bools_are_signed (suc (suc (suc (suc (suc (suc (suc (suc (suc (suc (suc zero))))))))))) h = refl
bools_are_signed (suc (suc (suc (suc (suc (suc (suc (suc (suc (suc (suc (suc zero)))))))))))) h = refl
bools_are_signed (suc (suc (suc (suc (suc (suc (suc (suc (suc (suc (suc (suc (suc zero))))))))))))) h = refl
bools_are_signed (suc (suc (suc (suc (suc (suc (suc (suc (suc (suc (suc (suc (suc (suc o)))))))))))))) h = absurd (omega (arith, h))
