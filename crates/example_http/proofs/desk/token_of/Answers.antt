use Rattle.std.specs.Prelude.{◌≡◌, ◌+◌, ℕ, List, codes, decimal, drop, length, Some}
use Rattle.std.specs.Str.Pattern.{FindsTextPrefix}
use Rattle.std.proofs.Common.{ap, rules, sym, ◌∙◌}
use Rattle.std.proofs.lemmas.Fmt.{parse-decimal}
use Rattle.example_http.specs.Answer.{path_of}
use Rattle.example_http.proofs.desk.token_of.Goals as goal

-- the word behind the prefix of a token's path is the token's digits
behind : (path word : List ℕ) (token : ℕ)
    → ((n : ℕ) × FindsTextPrefix (codes "/sessions/") path (Some n) × (word ≡ drop n path) × (length word + n ≡ length path))
    → path ≡ path_of token → word ≡ decimal token
behind path word token found is = (rw found.1.0 at found.2) ∙ ap (drop 10) is

-- it is read as the token
pub returns-in_default-parse-clause-none : goal.returns-in_default-parse-clause-none
returns-in_default-parse-clause-none c = λ token small is.
    let read = parse-decimal 64 token c.in-Some.word.now c.parse.result small small (behind c.args.path.now c.in-Some.word.now token c.in-Some.ensures.cases is) c.parse.ensures.value.0 in
    absurd (cc (read, c.in_default-parse.is))

pub returns-then-ne-clause-none : goal.returns-then-ne-clause-none
returns-then-ne-clause-none c = λ token small is.
    let digits = behind c.args.path.now c.in-Some.word.now token c.in-Some.ensures.cases is in
    let read = parse-decimal 64 token c.in-Some.word.now c.parse.result small small digits c.parse.ensures.value.0 in
    let number : c.in-Ok.token ≡ token = cc (read, c.in-Ok.is) in
    let text : c.as_str.result.now ≡ decimal c.in-Ok.token = search rules in
    let same : c.as_str.result.now ≡ c.in-Some.word.now = text ∙ ap decimal number ∙ sym digits in
    search (rules, same, c.if-ne.ensures)
