-- The filters of channels and of functions (RESIN's filter objects, in this project's chains).
use Rattle.std.specs.Prelude.{ℕ, ◌==◌, not, List, [], ◌∷◌, ◌++◌, filter, unwrap_or, refl}
use Rattle.std.specs.Coded.{Coded, code_by, coded×, coded_ℕ, coded_list}
use Rattle.std.specs.FinMap.{empty, get, insert}
use Rattle.resin_journal.specs.declared.channel.Channel.{Channel}
use Rattle.resin_journal.specs.declared.channel.Channel.TheVariants.{Http, Header, Email, File, Sql, Code, Input, Func}
use Rattle.resin_scope.specs.Names.{Named, named_code}

-- object numbers of filters, in the order in which they are asked
abbrev pub Chain : Type 0
Chain = List ℕ

-- a chain for each channel, and one for each function name that has filters
pub record FilterChains : Type 0 where
  pub http : Chain
  pub header : Chain
  pub email : Chain
  pub file : Chain
  pub sql : Chain
  pub code : Chain
  pub input : Chain
  pub func : Chain
  pub functions : Named Chain

abbrev pub chain_code : Coded Chain
chain_code = coded_list coded_ℕ

abbrev Parts : Type 0
Parts = Chain × (Chain × (Chain × (Chain × (Chain × (Chain × (Chain × (Chain × Named Chain)))))))

abbrev parts_code : Coded Parts
parts_code =
    coded× chain_code (coded× chain_code (coded× chain_code (coded× chain_code (coded× chain_code (coded× chain_code (coded× chain_code
    (coded× chain_code (named_code chain_code))))))))

abbrev pub chains_code : Coded FilterChains
chains_code =
    code_by Parts parts_code
    (λ s. (s.http, (s.header, (s.email, (s.file, (s.sql, (s.code, (s.input, (s.func, s.functions)))))))))
    (λ p. record {
      http = p.0;
      header = p.1.0;
      email = p.1.1.0;
      file = p.1.1.1.0;
      sql = p.1.1.1.1.0;
      code = p.1.1.1.1.1.0;
      input = p.1.1.1.1.1.1.0;
      func = p.1.1.1.1.1.1.1.0;
      functions = p.1.1.1.1.1.1.1.1;
    })
    (λ _. refl)

-- no filters
abbrev pub no_chains : FilterChains
no_chains = record {
  http = [];
  header = [];
  email = [];
  file = [];
  sql = [];
  code = [];
  input = [];
  func = [];
  functions = empty;
}

-- the filters of a channel
abbrev pub chain_of : Channel → FilterChains → Chain
chain_of Http s = s.http
chain_of Header s = s.header
chain_of Email s = s.email
chain_of File s = s.file
chain_of Sql s = s.sql
chain_of Code s = s.code
chain_of Input s = s.input
chain_of Func s = s.func

-- another chain at a channel; the others stay
abbrev pub with_chain : Channel → Chain → FilterChains → FilterChains
with_chain Http chain s = record s { http = chain }
with_chain Header chain s = record s { header = chain }
with_chain Email chain s = record s { email = chain }
with_chain File chain s = record s { file = chain }
with_chain Sql chain s = record s { sql = chain }
with_chain Code chain s = record s { code = chain }
with_chain Input chain s = record s { input = chain }
with_chain Func chain s = record s { func = chain }

-- a filter is asked last on a channel
abbrev pub appended : Channel → ℕ → FilterChains → FilterChains
appended at f s = with_chain at (chain_of at s ++ f ∷ []) s

-- a chain without a filter, wherever it stands there
abbrev pub without_filter : ℕ → Chain → Chain
without_filter f chain = filter (λ g. not (g == f)) chain

abbrev pub taken_out : Channel → ℕ → FilterChains → FilterChains
taken_out at f s = with_chain at (without_filter f (chain_of at s)) s

-- the filters of a function name
abbrev pub function_chain : List ℕ → FilterChains → Chain
function_chain name s = unwrap_or (get s.functions name) []

-- a filter is asked last on a function's arguments
abbrev pub appended_to_function : List ℕ → ℕ → FilterChains → FilterChains
appended_to_function name f s = record s { functions = insert s.functions name (function_chain name s ++ f ∷ []) }
