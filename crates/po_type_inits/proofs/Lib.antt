mod ScalarValues
mod SingleValues
