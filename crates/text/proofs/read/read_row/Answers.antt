-- Word by word: one number more, a word that is none, and all of them.
use Rattle.std.proofs.Common.{◌≡◌, [], ◌∷◌, ◌++◌, vec_items, refl, ◌∙◌, rules}
use Rattle.std.specs.Str.Iter.{split_whitespace_rest}
use Rattle.text.proofs.Lines.{word_of, read_since, one_more, no_more, bad_word, parsed, not_parsed}
use Rattle.text.proofs.read.read_row.Goals as goal

pub returns-in_default : goal.returns-in_default
returns-in_default c =
    let w = c.in-Some.word.now in
    let next = split_whitespace_rest c.next.new.self in
    let first = word_of (split_whitespace_rest c.loop-word.word-iterator) w next c.in-Some.ensures.steps in
    let n = read_since c.loop-word.invariant (c.len.ensures ∙ c.loop-word.cells.ok.0) (c.len-before.ensures ∙ c.args.cells.now.ok.0) in
    (refl, bad_word c.loop-word.invariant {w = w} {next = next} first (not_parsed w c.in_default.ensures.value.0) n)

pub loop-word-preserved : goal.loop-word-preserved
loop-word-preserved c =
    let w = c.in-Some.word.now in
    let next = split_whitespace_rest c.next.new.self in
    let first = word_of (split_whitespace_rest c.loop-word.word-iterator) w next c.in-Some.ensures.steps in
    let say = parsed w c.in-Ok.number c.from.result c.in-Ok.ensures.value.0 c.from.ensures in
    let more : vec_items c.push.new.self ≡ vec_items c.loop-word.cells ++ (c.from.result ∷ []) = search rules in
    one_more c.loop-word.invariant {w = w} {next = next} {more = vec_items c.push.new.self} first say more

pub returns : goal.returns
returns c =
    let n = read_since c.loop-word.invariant (c.len-2.ensures ∙ c.loop-word.cells.ok.0) (c.len-before.ensures ∙ c.args.cells.now.ok.0) in
    no_more c.loop-word.invariant c.in-None.ensures.steps.1 n
