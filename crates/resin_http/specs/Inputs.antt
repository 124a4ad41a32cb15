-- What scripts see of a request (PHP manual, "Predefined Variables").
use Rattle.std.specs.Prelude.{ℕ, List, codes}
use Rattle.resin_inputs.specs.declared.arrays.InputArrays.{InputArrays}
use Rattle.resin_inputs.specs.Inputs.{input_arrays}
use Rattle.resin_http.specs.declared.request.Method.{Method}
use Rattle.resin_http.specs.declared.request.Method.TheVariants.{Get, Head, Post}
use Rattle.resin_http.specs.declared.request.Request.{Request}

abbrev pub method_name : Method → List ℕ
method_name Get = codes "GET"
method_name Head = codes "HEAD"
method_name Post = codes "POST"

-- the input arrays of a request
abbrev pub inputs_of : Request → InputArrays
inputs_of r = input_arrays (method_name r.method) r.target r.fields r.body
